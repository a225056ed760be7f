use Rattle.std.proofs.Common.{◌≡◌, drop}
use Rattle.pvd_type.specs.View.{members_view}
use Rattle.nt_types.specs.Kinds.{all_lists}
use Rattle.nt_types.proofs.members.all_are_lists.Given as goal

abbrev pub invariant-loop-member : goal.invariant-loop-member
invariant-loop-member l = all_lists (members_view (drop l.member-index l.members)) ≡ all_lists (members_view l.members)
