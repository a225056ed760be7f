use Rattle.std.specs.Prelude.{◌≡◌, ◌++◌, ℕ, List, Option, Some, None, refl}
use Rattle.std.specs.Option.{option_or}
use Rattle.std.proofs.Common.{sym, ◌∙◌, ap}
use Rattle.group_view.specs.Groups.{GroupData}
use Rattle.desk_api.proofs.Naming.{first_of_both}
use Rattle.desk_api.specs.Sites.{first_named, group_names_from, services}
use Rattle.desk_api.specs.declared.channel.Channel.{Channel}
use Rattle.desk_api.specs.declared.history.SiteData.{SiteData}
use Rattle.desk_api.proofs.site.Site.find_other.Goals as goal

-- what a name stands for of these groups, or else of the services
named : (groups seen : List GroupData) (name : List ℕ) (found other : Option Channel) → groups ≡ seen → found ≡ first_named name (group_names_from 0 groups)
    → other ≡ first_named name services → option_or found other ≡ first_named name (group_names_from 0 seen ++ services)
named groups seen name found other is group_is other_is =
    (λ i. option_or (group_is i) (other_is i))
    ∙ ap (λ (gs : List GroupData). option_or (first_named name (group_names_from 0 gs)) (first_named name services)) is
    ∙ sym (first_of_both name (group_names_from 0 seen) services)

pub returns-in-Some : goal.returns-in-Some
returns-in-Some c =
    named c.self.inside.groups c.args.self.now.groups c.args.name.now (Some c.in-Some.channel) _ (ap (λ (s : SiteData). s.groups) c.self.view_is) (sym c.in-Some.is ∙ c.find.ensures) refl

pub returns-in-None : goal.returns-in-None
returns-in-None c =
    named c.self.inside.groups c.args.self.now.groups c.args.name.now None c.service_named.result (ap (λ (s : SiteData). s.groups) c.self.view_is) (sym c.in-None.is ∙ c.find.ensures) c.service_named.ensures
