use Rattle.std.proofs.Common.{◌≡◌, ◌+◌, ◌++◌, length, drop}
use Rattle.pvd_type.specs.View.{members_view}
use Rattle.pvd_type.specs.Numbers.{numbered_fields, sizes_of}
use Rattle.pvd_type.proofs.pv_type.+measure.Given as goal

abbrev pub invariant-measure_members-loop-member : goal.invariant-measure_members-loop-member
invariant-measure_members-loop-member l =
    let rest = numbered_fields (members_view (drop l.member-index l.members)) in
    let all = numbered_fields (members_view l.members) in
    record {
      same : l.sizes.items ++ sizes_of rest ≡ l.fn.sizes.items ++ sizes_of all;
      total : length l.sizes.items + length rest ≡ length l.fn.sizes.items + length all;
    }
