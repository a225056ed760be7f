use Rattle.std.proofs.Common.{◌≡◌, ◌*◌, ◌+◌, length, drop, fold, true}
use Rattle.std.specs.List.{filter}
use Rattle.std.specs.FinSet as set
use Rattle.pvd_type.specs.View.{shape_view, members_view}
use Rattle.pvd_type.specs.Numbers.{numbered_fields, nodes, nodes_in, IsMeasured}
use Rattle.pvd_value.specs.View.{row_view}
use Rattle.pvd_value.specs.Fits.{row_fits}
use Rattle.pvd_value.specs.Leaves.{row_slots}
use Rattle.pvd_value.specs.Same.{differing}
use Rattle.pvd_value.proofs.marked.+compare.Given as goal

abbrev pub decreases-compare : goal.decreases-compare
decreases-compare l = 3 * nodes (shape_view l.shape.now)

abbrev pub decreases-compare_member : goal.decreases-compare_member
decreases-compare_member l = 3 * nodes (shape_view l.shape.now) + 1

abbrev pub decreases-compare_rows : goal.decreases-compare_rows
decreases-compare_rows l = 3 * nodes_in (members_view l.members.now) + 2

abbrev pub invariant-compare_rows-loop-i : goal.invariant-compare_rows-loop-i
invariant-compare_rows-loop-i l =
    let members = members_view (drop l.i l.members) in
    let a = row_view (drop l.i l.a) in
    let b = row_view (drop l.i l.b) in
    record {
      same : fold set.insert l.found (filter (set.contains l.mask) (differing l.next (row_slots members a) (row_slots members b)))
          ≡ fold set.insert l.fn.found (filter (set.contains l.mask) (differing l.number (row_slots (members_view l.members) (row_view l.a)) (row_slots (members_view l.members) (row_view l.b))));
      total : l.next + length (numbered_fields members) ≡ l.number + length (numbered_fields (members_view l.members));
      measured : IsMeasured l.sizes (numbered_fields members);
      a_fits : row_fits 16 a members ≡ true;
      b_fits : row_fits 16 b members ≡ true;
    }
