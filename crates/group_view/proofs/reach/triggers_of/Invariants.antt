use Rattle.std.proofs.Common.{◌≡◌, ◌++◌, ℕ, drop}
use Rattle.group_view.specs.Leaves.{numbers_at, triggered_by}
use Rattle.group_view.proofs.reach.triggers_of.Given as goal

abbrev pub invariant-loop-member : goal.invariant-loop-member
invariant-loop-member l = (rec : ℕ) → numbers_at l.found rec ++ triggered_by (drop l.member-index l.members) rec ≡ triggered_by l.members rec
