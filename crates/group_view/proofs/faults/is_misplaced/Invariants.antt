use Rattle.std.proofs.Common.{◌≡◌, drop}
use Rattle.std.specs.List.{list_any}
use Rattle.group_view.specs.Faults.{closed_names, is_below, is_misplaced, Knows}
use Rattle.group_view.proofs.faults.is_misplaced.Given as goal

abbrev pub invariant-loop-member : goal.invariant-loop-member
invariant-loop-member l =
    (list_any (λ m. is_below (closed_names l.members) m.def.name) (drop l.member-index l.members) ≡ is_misplaced l.members) × Knows l.closed (closed_names l.members)
