use Rattle.std.proofs.Common.{◌≡◌, drop}
use Rattle.pvd_type.specs.View.{members_view}
use Rattle.pvd_request.specs.Selection.{name_fields}
use Rattle.pvd_request.proofs.said.name_fields.Given as goal

abbrev pub invariant-loop-member : goal.invariant-loop-member
invariant-loop-member l = name_fields (members_view (drop l.member-index l.members)) ≡ name_fields (members_view l.members)
