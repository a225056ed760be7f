use Rattle.std.proofs.Common.{◌≡◌, take}
use Rattle.journal_core.specs.Histories.{written}
use Rattle.journal_core.proofs.replay.write.Given as goal

abbrev pub invariant-loop-write : goal.invariant-loop-write
invariant-loop-write l = l.states ≡ written l.fn.states (take l.write-index l.writes)
