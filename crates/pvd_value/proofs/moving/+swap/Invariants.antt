use Rattle.std.proofs.Common.{◌≡◌, ◌*◌, ◌+◌, length, take, drop, true}
use Rattle.std.specs.FinSet as set
use Rattle.pvd_type.specs.View.{shape_view, members_view}
use Rattle.pvd_type.specs.Numbers.{numbered_fields, nodes, nodes_in, IsMeasured}
use Rattle.pvd_value.specs.View.{row_view}
use Rattle.pvd_value.specs.Fits.{row_fits}
use Rattle.pvd_value.specs.Merge.{merged_row}
use Rattle.pvd_value.proofs.Rows.{joined}
use Rattle.pvd_value.proofs.moving.+swap.Given as goal

abbrev pub decreases-swap : goal.decreases-swap
decreases-swap l = 3 * nodes (shape_view l.shape.now)

abbrev pub decreases-swap_member : goal.decreases-swap_member
decreases-swap_member l = 3 * nodes (shape_view l.shape.now) + 1

abbrev pub decreases-swap_row : goal.decreases-swap_row
decreases-swap_row l = 3 * nodes_in (members_view l.members.now) + 2

abbrev pub invariant-swap_row-loop-i : goal.invariant-swap_row-loop-i
invariant-swap_row-loop-i l =
    let members = members_view (drop l.i l.members) in
    let old = row_view (drop l.i l.old.items) in
    let new = row_view (drop l.i l.new.items) in
    record {
      same : joined (row_view (take l.i l.old.items)) (merged_row (set.contains l.mask) l.next members old new)
          ≡ merged_row (set.contains l.mask) l.number (members_view l.members) (row_view l.initial.old.items) (row_view l.initial.new.items);
      other : joined (row_view (take l.i l.new.items)) (merged_row (set.contains l.mask) l.next members new old)
          ≡ merged_row (set.contains l.mask) l.number (members_view l.members) (row_view l.initial.new.items) (row_view l.initial.old.items);
      total : l.next + length (numbered_fields members) ≡ l.number + length (numbered_fields (members_view l.members));
      measured : IsMeasured l.sizes (numbered_fields members);
      old_fits : row_fits 16 old members ≡ true;
      new_fits : row_fits 16 new members ≡ true;
      old_size : length l.old.items ≡ length l.initial.old.items;
      new_size : length l.new.items ≡ length l.initial.new.items;
    }
