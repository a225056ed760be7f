use Rattle.std.proofs.Common.{◌≡◌, ◌*◌, ◌+◌, ◌++◌, length, drop, map, true}
use Rattle.std.specs.FinSet as set
use Rattle.pvd_type.specs.View.{shape_view, members_view}
use Rattle.pvd_type.specs.Numbers.{numbered_fields, nodes, nodes_in, IsMeasured}
use Rattle.pvd_value.specs.View.{view, row_view}
use Rattle.pvd_value.specs.Fits.{row_fits}
use Rattle.pvd_value.specs.Merge.{picked_row}
use Rattle.pvd_value.proofs.merging.+pick.Given as goal

abbrev pub decreases-pick : goal.decreases-pick
decreases-pick l = 2 * nodes (shape_view l.shape.now)

abbrev pub decreases-pick_row : goal.decreases-pick_row
decreases-pick_row l = 2 * nodes_in (members_view l.members.now) + 1

abbrev pub invariant-pick_row-loop-i : goal.invariant-pick_row-loop-i
invariant-pick_row-loop-i l =
    let members = members_view (drop l.i l.members) in
    let from = row_view (drop l.i l.from) in
    record {
      same : map view l.copies.items ++ picked_row (set.contains l.mask) l.next members from
          ≡ map view l.fn.copies.items ++ picked_row (set.contains l.mask) l.number (members_view l.members) (row_view l.from);
      total : l.next + length (numbered_fields members) ≡ l.number + length (numbered_fields (members_view l.members));
      measured : IsMeasured l.sizes (numbered_fields members);
      fits : row_fits 16 from members ≡ true;
    }
