use Rattle.std.specs.Prelude.{◌≡◌, ℕ, List, IfOk}
use Rattle.std.proofs.Common.{subst}
use Rattle.desk_api.proofs.Holding.{looks_at_none}
use Rattle.desk_api.proofs.site.Site.footprint_by.Goals as goal

pub returns : goal.returns
returns c =
    subst (λ (l : List ℕ). IfOk c.footprint_with.result (λ recs. recs.items ≡ l)) (looks_at_none c.args.self.now c.args.actions.now) c.footprint_with.ensures
