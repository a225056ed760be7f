use Rattle.std.proofs.Common.{◌≡◌, drop}
use Rattle.pvd_type.specs.View.{members_view}
use Rattle.pvd_type.specs.Same.{same_fields}
use Rattle.pvd_type.proofs.same.+same.Given as goal

abbrev pub invariant-same_members-loop-i : goal.invariant-same_members-loop-i
invariant-same_members-loop-i l = same_fields (members_view (drop l.i l.a)) (members_view (drop l.i l.b)) ≡ same_fields (members_view l.a) (members_view l.b)
