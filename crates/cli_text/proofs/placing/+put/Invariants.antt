use Rattle.std.proofs.Common.{◌≡◌, ◌*◌, ◌+◌, take, drop}
use Rattle.pvd_type.specs.View.{shape_view, members_view}
use Rattle.pvd_type.specs.Numbers.{numbered_fields, nodes, nodes_in, IsMeasured}
use Rattle.pvd_value.specs.View.{row_view}
use Rattle.pvd_value.proofs.Rows.{joined}
use Rattle.cli_text.specs.Words.{made}
use Rattle.cli_text.specs.Put.{give, put_among}
use Rattle.cli_text.proofs.placing.+put.Given as goal

abbrev pub decreases-put_below : goal.decreases-put_below
decreases-put_below l = 3 * nodes (shape_view l.shape.now)

abbrev pub decreases-put_members : goal.decreases-put_members
decreases-put_members l = 3 * nodes_in (members_view l.members.now) + 2

abbrev pub decreases-put_row : goal.decreases-put_row
decreases-put_row l = 3 * nodes_in (members_view l.members.now) + 1

abbrev pub invariant-put_row-loop-i : goal.invariant-put_row-loop-i
invariant-put_row-loop-i l =
    let f = give l.word.way l.word.choices.now l.word.first l.word.text.now in
    let members = members_view (drop l.i l.members) in
    record {
      same : made (joined (row_view (take l.i l.values.items))) (put_among f l.left members (row_view (drop l.i l.values.items)))
          ≡ put_among f l.number (members_view l.members) (row_view l.initial.values.items);
      measured : IsMeasured l.sizes (numbered_fields members);
      kept : l.values.items ≡ l.initial.values.items;
    }
