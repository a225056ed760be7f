use Rattle.std.proofs.Common.{◌≡◌, take}
use Rattle.journal_core.specs.Histories.{replayed}
use Rattle.journal_core.proofs.replay.replay.Given as goal

abbrev pub invariant-loop-entry : goal.invariant-loop-entry
invariant-loop-entry l = l.states ≡ replayed l.fn.states (take l.entry-index l.entries)
