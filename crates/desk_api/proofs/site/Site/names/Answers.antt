use Rattle.std.specs.Prelude.{◌++◌, ◌∷◌, []}
use Rattle.std.proofs.Common.{sym, ◌∙◌}
use Rattle.desk_api.proofs.Stating.{next_taken}
use Rattle.desk_api.proofs.site.Site.names.Goals as goal

pub loop-rec-preserved : goal.loop-rec-preserved
loop-rec-preserved c =
    (c.in_ok-push.ensures {u = tt}).items ∙ (λ i. c.loop-rec.invariant i ++ (c.in_ok-of.ensures {u = tt}) i ∷ [])
    ∙ sym (next_taken c.args.self.now.names c.loop-rec.rec c.name.result.now c.name.ensures)
