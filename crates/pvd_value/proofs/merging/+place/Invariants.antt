use Rattle.std.proofs.Common.{◌≡◌, ◌*◌, ◌+◌, length, take, drop, map, true}
use Rattle.std.specs.FinSet as set
use Rattle.std.specs.Vec.Iter.{into_iter_items}
use Rattle.pvd_type.specs.View.{shape_view, members_view}
use Rattle.pvd_type.specs.Numbers.{numbered_fields, nodes, nodes_in, IsMeasured}
use Rattle.pvd_value.specs.View.{view, row_view}
use Rattle.pvd_value.specs.Fits.{row_fits}
use Rattle.pvd_value.specs.Merge.{placed_row, left_by_row}
use Rattle.pvd_value.proofs.Rows.{joined}
use Rattle.pvd_value.proofs.merging.+place.Given as goal

abbrev pub decreases-place : goal.decreases-place
decreases-place l = 2 * nodes (shape_view l.shape.now)

abbrev pub decreases-place_row : goal.decreases-place_row
decreases-place_row l = 2 * nodes_in (members_view l.members.now) + 1

abbrev pub invariant-place_row-loop-i : goal.invariant-place_row-loop-i
invariant-place_row-loop-i l =
    let members = members_view (drop l.i l.members) in
    let old = row_view (drop l.i l.into.items) in
    let mask = set.contains l.mask in
    let copies = map view (into_iter_items l.copies) in
    let whole = members_view l.members in
    record {
      same : joined (row_view (take l.i l.into.items)) (placed_row mask l.next members old copies)
          ≡ placed_row mask l.number whole (row_view l.initial.into.items) (map view (into_iter_items l.initial.copies));
      rest : left_by_row mask l.next members copies ≡ left_by_row mask l.number whole (map view (into_iter_items l.initial.copies));
      total : l.next + length (numbered_fields members) ≡ l.number + length (numbered_fields whole);
      measured : IsMeasured l.sizes (numbered_fields members);
      fits : row_fits 16 old members ≡ true;
      size : length l.into.items ≡ length l.initial.into.items;
    }
