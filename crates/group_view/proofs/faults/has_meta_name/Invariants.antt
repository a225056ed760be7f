use Rattle.std.proofs.Common.{◌≡◌, drop}
use Rattle.group_view.specs.Faults.{has_meta_name}
use Rattle.group_view.proofs.faults.has_meta_name.Given as goal

abbrev pub invariant-loop-member : goal.invariant-loop-member
invariant-loop-member l = has_meta_name (drop l.member-index l.members) ≡ has_meta_name l.members
