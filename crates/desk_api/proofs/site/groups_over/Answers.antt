use Rattle.std.specs.Prelude.{◌≡◌, List, Result, Ok, Err, IfOk}
use Rattle.std.specs.List.{AllByRecursion}
use Rattle.std.proofs.Common.{sym, ap, subst}
use Rattle.group_view.specs.Groups.{GroupData, IsOver}
use Rattle.rec_kinds.specs.Configs.{Config}
use Rattle.rec_kinds.specs.declared.record_text.RecText.{RecText}
use Rattle.desk_api.proofs.Building.{groups_over}
use Rattle.desk_api.specs.Loading.{groups_of}
use Rattle.desk_api.specs.Sites.{configs_of}
use Rattle.desk_api.specs.declared.fault.SiteFault.{SiteFault}
use Rattle.desk_api.specs.declared.history.SiteData.{SiteData}
use Rattle.desk_api.proofs.site.groups_over.Goals as goal

over : (r : Result (List GroupData) SiteFault) (texts : List RecText) → IfOk r (λ groups. groups_of texts ≡ Ok groups) → IfOk r (λ groups. AllByRecursion (IsOver (configs_of texts)) groups)
over (Ok groups) texts is = groups_over texts groups is
over (Err fault) texts is = tt

pub returns-clause-over : goal.returns-clause-over
returns-clause-over c =
    subst (λ (configs : List Config). IfOk c.of_texts.result (λ groups. AllByRecursion (IsOver configs) groups)) (sym (ap (λ (s : SiteData). s.configs) c.requires))
    (over c.of_texts.result c.args.texts.now c.of_texts.ensures.ok)
