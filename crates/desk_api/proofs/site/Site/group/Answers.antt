use Rattle.std.specs.Prelude.{List}
use Rattle.std.proofs.Common.{ap, subst}
use Rattle.rec_kinds.specs.Configs.{Config}
use Rattle.group_view.specs.Groups.{IsOver}
use Rattle.desk_api.proofs.Showing.{over_at}
use Rattle.desk_api.specs.declared.history.SiteData.{SiteData}
use Rattle.desk_api.proofs.site.Site.group.Goals as goal

pub returns-clause-over : goal.returns-clause-over
returns-clause-over c =
    subst (λ (configs : List Config). IsOver configs c.at.result.now) (ap (λ (s : SiteData). s.configs) c.self.view_is)
    (over_at c.self.inside.records.configs c.self.inside.groups c.args.number c.at.result.now c.self.invariant.2 c.at.ensures)
