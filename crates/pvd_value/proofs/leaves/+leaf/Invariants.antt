use Rattle.std.proofs.Common.{◌≡◌, ◌*◌, ◌+◌, drop, true}
use Rattle.std.specs.Prelude.{slice_get}
use Rattle.pvd_type.specs.View.{shape_view, members_view}
use Rattle.pvd_type.specs.Numbers.{numbered_fields, IsMeasured, nodes, nodes_in}
use Rattle.pvd_value.specs.View.{row_view}
use Rattle.pvd_value.specs.Fits.{row_fits}
use Rattle.pvd_value.specs.Leaves.{known, row_slots}
use Rattle.pvd_value.proofs.leaves.+leaf.Given as goal

abbrev pub decreases-leaf_below : goal.decreases-leaf_below
decreases-leaf_below l = 2 * nodes (shape_view l.shape.now)

abbrev pub decreases-leaf_among : goal.decreases-leaf_among
decreases-leaf_among l = 2 * nodes_in (members_view l.members.now) + 1

abbrev pub invariant-leaf_among-loop-i : goal.invariant-leaf_among-loop-i
invariant-leaf_among-loop-i l =
    let members = members_view (drop l.i l.members) in
    let values = row_view (drop l.i l.values) in
    record {
      same : known (slice_get (row_slots members values) l.left) ≡ known (slice_get (row_slots (members_view l.members) (row_view l.values)) l.number);
      measured : IsMeasured l.sizes (numbered_fields members);
      fits : row_fits 16 values members ≡ true;
    }
