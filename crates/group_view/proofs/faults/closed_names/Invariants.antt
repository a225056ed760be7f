use Rattle.std.proofs.Common.{◌≡◌, ◌||◌, ℕ, List, drop}
use Rattle.group_view.specs.Faults.{closed_names, is_among, has_name}
use Rattle.group_view.proofs.faults.closed_names.Given as goal

abbrev pub invariant-loop-member : goal.invariant-loop-member
invariant-loop-member l =
    (name : List ℕ) → (has_name l.closed name || is_among (closed_names (drop l.member-index l.members)) name) ≡ is_among (closed_names l.members) name
