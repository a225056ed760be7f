use Rattle.std.proofs.Common.{◌≡◌, ◌++◌, ◌*◌, ◌+◌, length, drop, true}
use Rattle.std.specs.FinSet as set
use Rattle.pvd_type.specs.View.{shape_view, members_view}
use Rattle.pvd_type.specs.Numbers.{numbered_fields, nodes, nodes_in}
use Rattle.pvd_value.specs.View.{row_view}
use Rattle.pvd_value.specs.Fits.{row_fits}
use Rattle.pvd_codec.specs.Written.{Begins, canonical_marked_row, CanMarkedRow}
use Rattle.pvd_codec.proofs.parts_writing.+part.Given as goal

abbrev pub decreases-put_marked : goal.decreases-put_marked
decreases-put_marked l = 2 * nodes (shape_view l.shape.now)

abbrev pub decreases-put_marked_row : goal.decreases-put_marked_row
decreases-put_marked_row l = 2 * nodes_in (members_view l.members.now) + 1

abbrev pub invariant-put_marked_row-loop-i : goal.invariant-put_marked_row-loop-i
invariant-put_marked_row-loop-i l =
    let members = members_view (drop l.i l.members) in
    let values = row_view (drop l.i l.values) in
    record {
      written : l.out.items ++ canonical_marked_row l.order (set.contains l.mask) l.next values members
          ≡ l.fn.out.items ++ canonical_marked_row l.order (set.contains l.mask) l.number (row_view l.values) (members_view l.members);
      can : CanMarkedRow (set.contains l.mask) l.next values members → CanMarkedRow (set.contains l.mask) l.number (row_view l.values) (members_view l.members);
      begins : Begins l.fn.out.items l.out.items;
      total : l.next + length (numbered_fields members) ≡ l.number + length (numbered_fields (members_view l.members));
      fits : row_fits 16 values members ≡ true;
    }
