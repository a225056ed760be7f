use Rattle.std.proofs.Common.{◌≡◌, ◌+◌, ◌*◌, length, drop, fold}
use Rattle.std.specs.FinSet as set
use Rattle.pvd_type.specs.View.{shape_view, members_view}
use Rattle.pvd_type.specs.Numbers.{numbered_fields, nodes, nodes_in, IsMeasured}
use Rattle.pvd_request.specs.Selection.{one_selects, leaves_among}
use Rattle.pvd_request.proofs.selecting.+select.Given as goal

abbrev pub decreases-select : goal.decreases-select
decreases-select l = 3 * nodes (shape_view l.shape.now) + 1

abbrev pub decreases-select_below : goal.decreases-select_below
decreases-select_below l = 3 * nodes (shape_view l.shape.now)

abbrev pub decreases-select_among : goal.decreases-select_among
decreases-select_among l = 3 * nodes_in (members_view l.members.now) + 2

abbrev pub invariant-select_among-loop-member : goal.invariant-select_among-loop-member
invariant-select_among-loop-member l =
    let rest = members_view (drop l.member-index l.members) in
    let all = members_view l.members in
    let passes = one_selects (members_view l.fn.said) in
    record {
      same : fold set.insert l.found (leaves_among passes l.number rest) ≡ fold set.insert l.fn.found (leaves_among passes l.fn.number all);
      total : l.number + length (numbered_fields rest) ≡ l.fn.number + length (numbered_fields all);
      measured : IsMeasured l.sizes (numbered_fields rest);
    }
