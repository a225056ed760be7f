use Rattle.std.proofs.Common.{◌≡◌, ◌+◌, length, drop, fold}
use Rattle.std.specs.FinSet as set
use Rattle.pvd_type.specs.View.{members_view}
use Rattle.pvd_type.specs.Numbers.{numbered_fields}
use Rattle.pvd_request.specs.Selection.{every, leaves_among}
use Rattle.pvd_request.proofs.selecting.+take.Given as goal

abbrev pub invariant-take_members-loop-member : goal.invariant-take_members-loop-member
invariant-take_members-loop-member l =
    let rest = members_view (drop l.member-index l.members) in
    let all = members_view l.members in
    record {
      same : fold set.insert l.found (leaves_among every l.next rest) ≡ fold set.insert l.fn.found (leaves_among every l.number all);
      total : l.next + length (numbered_fields rest) ≡ l.number + length (numbered_fields all);
    }
