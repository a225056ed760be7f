use Rattle.std.proofs.Common.{◌≡◌, get_or, rules}
use Rattle.nt_types.proofs.Rows.{made_more}
use Rattle.nt_types.specs.Types.{scalar}
use Rattle.nt_types.proofs.parts.scalars_of.Goals as goal

pub loop-field-preserved : goal.loop-field-preserved
loop-field-preserved c =
    let item = c.field-item.result in
    let here : get_or c.args.query.now c.loop-field.field-index item ≡ item = search rules in
    made_more scalar c.args.query.now c.loop-field.field-index item _ _ c.loop-field-test.true here c.loop-field.invariant (c.in_ok-members-2.ensures {u = tt})
