use Rattle.std.specs.Prelude.{◌≡◌, Some, slice_get}
use Rattle.std.proofs.Common.{◌∙◌, ap, rules}
use Rattle.pvd_type.specs.Numbers.{leaves}
use Rattle.desk_api.proofs.Recording.{shows_leaves}
use Rattle.desk_api.specs.Types.{type_shown}
use Rattle.desk_api.specs.declared.history.SiteData.{SiteData}
use Rattle.desk_api.proofs.records.Records.leaves_at.Goals as goal

pub returns : goal.returns
returns c =
    let es = c.self.inside.by_name.entries in
    let found : slice_get es c.args.rec ≡ Some (c.unwrap.result.0.now, c.unwrap.result.1.now) = search rules in
    shows_leaves es c.args.rec _ found c.self.invariant.4 ∙ ap (λ (s : SiteData). leaves (type_shown (slice_get s.configs c.args.rec))) c.self.view_is
