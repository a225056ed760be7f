use Rattle.std.specs.Prelude.{◌++◌, ◌∷◌, []}
use Rattle.std.proofs.Common.{sym, ◌∙◌}
use Rattle.desk_api.proofs.Telling.{next_row}
use Rattle.desk_api.proofs.site.Site.rows.Goals as goal

pub loop-rec-preserved : goal.loop-rec-preserved
loop-rec-preserved c =
    (c.in_ok-push.ensures {u = tt}).items ∙ (λ i. c.loop-rec.invariant i ++ (c.in_ok-row_of.ensures {u = tt}) i ∷ [])
    ∙ sym (next_row c.args.self.now.names c.args.states.now c.loop-rec.rec c.name.result.now c.state_of.result.now c.name.ensures c.state_of.ensures)
