use Rattle.std.proofs.Common.{◌≡◌, ◌++◌, ◌*◌, ◌+◌, length, drop, true}
use Rattle.std.specs.FinSet as set
use Rattle.pvd_type.specs.View.{shape_view, members_view}
use Rattle.pvd_type.specs.Numbers.{numbered_fields, nodes, nodes_in}
use Rattle.pvd_value.specs.View.{row_view}
use Rattle.pvd_value.specs.Fits.{row_fits}
use Rattle.cli_text.specs.Lines.{lines_among}
use Rattle.cli_text.proofs.lines.+marked.Given as goal

abbrev pub decreases-print_marked : goal.decreases-print_marked
decreases-print_marked l = 3 * nodes (shape_view l.shape.now)

abbrev pub decreases-print_row : goal.decreases-print_row
decreases-print_row l = 3 * nodes_in (members_view l.members.now) + 2

abbrev pub decreases-print_member : goal.decreases-print_member
decreases-print_member l = 3 * nodes (shape_view l.member.now.shape) + 1

abbrev pub invariant-print_row-loop-i : goal.invariant-print_row-loop-i
invariant-print_row-loop-i l =
    let members = members_view (drop l.i l.members) in
    let values = row_view (drop l.i l.values) in
    record {
      lines : l.out.items ++ lines_among (set.contains l.mask) (set.contains l.overrun) l.next l.fn.path.items members values
          ≡ l.fn.out.items ++ lines_among (set.contains l.mask) (set.contains l.overrun) l.number l.fn.path.items (members_view l.members) (row_view l.values);
      path : l.path.items ≡ l.fn.path.items;
      total : l.next + length (numbered_fields members) ≡ l.number + length (numbered_fields (members_view l.members));
      fits : row_fits 16 values members ≡ true;
    }
