use Rattle.std.proofs.Common.{◌≡◌, get_or, rules}
use Rattle.nt_types.proofs.Rows.{made_more}
use Rattle.nt_types.specs.Types.{list_of}
use Rattle.nt_types.proofs.parts.columns_of.Goals as goal

pub loop-column-preserved : goal.loop-column-preserved
loop-column-preserved c =
    let item = c.column-item.result in
    let here : get_or c.args.columns.now c.loop-column.column-index item ≡ item = search rules in
    made_more list_of c.args.columns.now c.loop-column.column-index item _ _ c.loop-column-test.true here c.loop-column.invariant (c.in_ok-members-2.ensures {u = tt})
