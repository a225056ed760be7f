use Rattle.std.proofs.Common.{◌≡◌, ◌*◌, ◌+◌, length, drop}
use Rattle.std.specs.FinSet as set
use Rattle.pvd_type.specs.View.{shape_view, members_view}
use Rattle.pvd_type.specs.Numbers.{numbered_fields, nodes, nodes_in, IsMeasured}
use Rattle.pvd_value.specs.View.{row_view}
use Rattle.pvd_value.proofs.Rows.{joined}
use Rattle.pvd_desc.specs.Types.{laid}
use Rattle.pvd_codec.specs.Reading.{marked_row}
use Rattle.pvd_codec.proofs.Steps.{with_row}
use Rattle.pvd_codec.proofs.parts.+marked.Given as goal

abbrev pub decreases-marked_at : goal.decreases-marked_at
decreases-marked_at f = 2 * nodes (shape_view f.shape.now)

abbrev pub decreases-marked_row_at : goal.decreases-marked_row_at
decreases-marked_row_at f = 2 * nodes_in (members_view f.members.now) + 1

abbrev pub invariant-marked_row_at-loop-member : goal.invariant-marked_row_at-loop-member
invariant-marked_row_at-loop-member l = record {
  same :
      with_row (joined (row_view l.values.items)) (marked_row l.order (set.contains l.mask) l.next (members_view (drop l.member-index l.members)) (l.rest, laid l.base l.changed))
      ≡ marked_row l.order (set.contains l.mask) l.number (members_view l.members) (l.bytes, laid l.base l.fn.changed);
  total : l.next + length (numbered_fields (members_view (drop l.member-index l.members))) ≡ l.number + length (numbered_fields (members_view l.members));
  measured : IsMeasured l.sizes (numbered_fields (members_view (drop l.member-index l.members)));
}
