use Rattle.std.proofs.Common.{◌≡◌, ◌+◌, length, drop, fold}
use Rattle.std.specs.FinSet as set
use Rattle.pvd_type.specs.View.{members_view}
use Rattle.pvd_type.specs.Numbers.{numbered_fields, leaves_from}
use Rattle.pvd_type.proofs.pv_type.+collect.Given as goal

abbrev pub invariant-collect_among-loop-member : goal.invariant-collect_among-loop-member
invariant-collect_among-loop-member l =
    let rest = numbered_fields (members_view (drop l.member-index l.members)) in
    let all = numbered_fields (members_view l.members) in
    record {
      same : fold set.insert l.found (leaves_from l.next rest) ≡ fold set.insert l.fn.found (leaves_from l.number all);
      total : l.next + length rest ≡ l.number + length all;
    }
