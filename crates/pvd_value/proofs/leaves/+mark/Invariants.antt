use Rattle.std.proofs.Common.{◌≡◌, ◌+◌, length, drop, fold}
use Rattle.std.specs.FinSet as set
use Rattle.pvd_type.specs.View.{members_view}
use Rattle.pvd_type.specs.Numbers.{numbered_fields, IsMeasured}
use Rattle.pvd_value.specs.Leaves.{leaves_among}
use Rattle.pvd_value.proofs.leaves.+mark.Given as goal

abbrev pub invariant-mark_members-loop-member : goal.invariant-mark_members-loop-member
invariant-mark_members-loop-member l =
    let rest = members_view (drop l.member-index l.members) in
    let all = members_view l.members in
    record {
      same : fold set.insert l.found (leaves_among (set.contains l.bits) l.inside l.next rest) ≡ fold set.insert l.fn.found (leaves_among (set.contains l.bits) l.inside l.number all);
      total : l.next + length (numbered_fields rest) ≡ l.number + length (numbered_fields all);
      measured : IsMeasured l.sizes (numbered_fields rest);
    }
