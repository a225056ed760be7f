use Rattle.std.specs.Prelude.{◌≡◌, ◌==◌, ◌||◌, ℕ, Bool, List, ◌++◌, ◌∷◌, [], Result, Ok, Err, OnOk, refl}
use Rattle.std.specs.List.{list_any}
use Rattle.std.proofs.Common.{true, false, ◌∙◌, ap}
use Rattle.pvd_type.specs.declared.memory.NoMemory.{NoMemory}
use Rattle.group_view.specs.Groups.{GroupData}
use Rattle.group_view.specs.Leaves.{footprint}
use Rattle.desk_api.proofs.Holding.{turned_eq}
use Rattle.desk_api.proofs.Noting.{among_last}
use Rattle.desk_api.specs.Grouping.{is_among, AreRead}
use Rattle.desk_api.specs.Puts.{is_held_with}
use Rattle.desk_api.specs.declared.history.SiteData.{SiteData}
use Rattle.desk_api.proofs.site.Site.add_held.Goals as goal

moved : (a b c : Bool) → ((a || b) || c) ≡ (a || (b || c))
moved true b c = refl
moved false b c = refl

held : (r : Result (Unit {0}) NoMemory) (site : SiteData) (groups : List GroupData) (rec : ℕ) (old pushed new : List ℕ) → groups ≡ site.groups → pushed ≡ old ++ rec ∷ []
    → OnOk r (AreRead groups rec pushed new) → OnOk r ((n : ℕ) → is_among new n ≡ (is_among old n || is_held_with site n rec))
held (Ok u) site groups rec old pushed new same more are = λ n.
    are n ∙ ap (λ (l : List ℕ). is_among l n || list_any (λ g. is_among (footprint g rec) n) groups) more
    ∙ ap (λ (b : Bool). b || list_any (λ g. is_among (footprint g rec) n) groups) (among_last old rec n)
    ∙ moved (is_among old n) (rec == n) (list_any (λ g. is_among (footprint g rec) n) groups)
    ∙ ap (λ (b : Bool). is_among old n || (b || list_any (λ g. is_among (footprint g rec) n) groups)) (turned_eq rec n)
    ∙ ap (λ (gs : List GroupData). is_among old n || (n == rec || list_any (λ g. is_among (footprint g rec) n) gs)) same
held (Err e) site groups rec old pushed new same more are = tt

pub returns : goal.returns
returns c =
    held c.add_footprints.result c.args.self.now _ c.args.rec c.args.found.now.items _ _ (ap (λ (s : SiteData). s.groups) c.self.view_is) (c.in_ok-push.ensures {u = tt}).items c.add_footprints.ensures
