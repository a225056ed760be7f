use Rattle.std.proofs.Common.{◌≡◌, drop}
use Rattle.pvd_type.specs.View.{members_view}
use Rattle.nt_types.specs.Kinds.{member_named}
use Rattle.nt_types.proofs.members.shape_named.Given as goal

abbrev pub invariant-loop-member : goal.invariant-loop-member
invariant-loop-member l = member_named l.name (members_view (drop l.member-index l.members)) ≡ member_named l.name (members_view l.members)
