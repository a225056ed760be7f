use Rattle.std.specs.Prelude.{◌≡◌, ◌++◌, ℕ, List, Option, Some, None, refl}
use Rattle.std.specs.Option.{option_or}
use Rattle.std.proofs.Common.{sym, ◌∙◌, ap}
use Rattle.group_view.specs.Groups.{GroupData}
use Rattle.desk_api.proofs.Naming.{first_of_both}
use Rattle.desk_api.specs.Records.{with_groups}
use Rattle.desk_api.specs.Sites.{channel_named, first_named, group_names_from, names_from, services}
use Rattle.desk_api.specs.declared.channel.Channel.{Channel}
use Rattle.desk_api.specs.declared.history.SiteData.{SiteData}
use Rattle.desk_api.proofs.site.Site.find.Goals as goal

-- what a name stands for of a site of these records and groups
named : (site records : SiteData) (groups : List GroupData) (name : List ℕ) (found other : Option Channel) → with_groups records groups ≡ site → found ≡ first_named name (names_from 0 records.names)
    → other ≡ first_named name (group_names_from 0 site.groups ++ services) → option_or found other ≡ channel_named site name
named site records groups name found other is record_is other_is =
    let others = group_names_from 0 site.groups ++ services in
    (λ i. option_or (record_is i) (other_is i))
    ∙ ap (λ (s : SiteData). option_or (first_named name (names_from 0 s.names)) (first_named name others)) is
    ∙ sym (first_of_both name (names_from 0 site.names) others)

pub returns-in-Some : goal.returns-in-Some
returns-in-Some c = named c.args.self.now c.self.inside.records c.self.inside.groups c.args.name.now (Some c.in-Some.channel) _ c.self.view_is (sym c.in-Some.is ∙ c.find.ensures) refl

pub returns-in-None : goal.returns-in-None
returns-in-None c = named c.args.self.now c.self.inside.records c.self.inside.groups c.args.name.now None c.find_other.result c.self.view_is (sym c.in-None.is ∙ c.find.ensures) c.find_other.ensures
