use Rattle.std.proofs.Common.{◌≡◌, take}
use Rattle.std.specs.List.{sum_by}
use Rattle.journal_core.specs.Weights.{action_weight}
use Rattle.journal_core.proofs.entry.actions_weight.Given as goal

abbrev pub invariant-loop-action : goal.invariant-loop-action
invariant-loop-action l = l.total ≡ sum_by action_weight (take l.action-index l.actions)
