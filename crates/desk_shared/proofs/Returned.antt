-- States in hand are exchanged with those at their places, and then back.
use Rattle.std.proofs.Common.{◌≡◌, ◌<◌, ℕ, Bool, true, false, List, length, IsTrue, Option, refl, sym, ◌∙◌, ap, subst}
use Rattle.std.proofs.lemmas.List.{length-map}
use Rattle.std.specs.List.{AllByRecursion}
use Rattle.std.specs.Prelude.{is_some, ◌&&◌}
use Rattle.std.proofs.lemmas.Bool.{false≢true}
use Rattle.rec_kinds.specs.Configs.{Config}
use Rattle.rec_kinds.specs.declared.state.RecState.{RecState}
use Rattle.journal_core.specs.Legality.{AreValid}
use Rattle.desk_api.specs.Sites.{AreOver, footprint_of, has_values, is_channel}
use Rattle.desk_api.specs.Triggers.{may_be_watched}
use Rattle.desk_api.specs.declared.channel.Channel.{Channel}
use Rattle.desk_api.specs.declared.history.SiteData.{SiteData}
use Rattle.desk_core.specs.Ports.{ports_there, ports_wanted}
use Rattle.desk_core.proofs.Listing.{valid_count}
use Rattle.desk_core.proofs.Reading.{below}
use Rattle.desk_shared.specs.Exchanges.{AreExchanged}
use Rattle.desk_shared.specs.Hands.{Visits}
use Rattle.desk_shared.specs.Records.{Sight}
use Rattle.desk_shared.proofs.Exchanged.{back_in_hand, back_in_place}
use Rattle.desk_shared.proofs.Gotten.{valid_exchanged}
use Rattle.desk_shared.proofs.Handed.{valid_in_hand}

-- both are then as they were
module _ (recs : List ℕ) (hand more back opening mixed after : List RecState) (x : AreExchanged recs hand more opening mixed) (y : AreExchanged recs more back mixed after) where
  pub hand_again : back ≡ hand
  hand_again = back_in_hand recs more back mixed after y hand x.given

  pub states_again : after ≡ opening
  states_again = back_in_place recs hand more opening mixed x back mixed after y refl (λ k out. refl)

-- there are as many places for ports as configurations
pub many_ports : {P : Type 0} (ports : List (Option P)) (configs : List Config) → ports_there ports ≡ ports_wanted configs → length ports ≡ length configs
many_ports ports configs same =
    sym (length-map ports (λ (port : Option _). is_some port)) ∙ ap length same ∙ length-map configs (λ (config : Config). is_some config.port)

-- a channel that may be watched is a channel
pub watched_channel : (site : SiteData) (channel : Channel) → may_be_watched site channel ≡ true → IsTrue (is_channel site channel)
watched_channel site channel is = first (is_channel site channel) (has_values channel) is where
  first : (a b : Bool) → (a && b) ≡ true → a ≡ true
  first true b e = refl
  first false b e = absurd (false≢true e)

-- the records of a channel have a state each
pub has_states : (site : SiteData) (channel : Channel) (states : List RecState) → AreOver site → length site.names ≡ length site.configs → AreValid site.configs site.opening → states ≡ site.opening → IsTrue (is_channel site channel)
    → AllByRecursion (λ rec. rec < length states) (footprint_of site channel)
has_states site channel states over named valid same is =
    below site channel (length states) over named (valid_count site.configs site.opening valid ∙ ap length (sym same)) is

-- the states in hand among those of the opening are valid
pub valid_with : (before v : Sight) (recs : List ℕ) (hand more mixed : List RecState) (site : SiteData) → Visits before v recs hand → before.seen.base.site ≡ site → AreValid site.configs site.opening → AreExchanged recs hand more site.opening mixed
    → AreValid site.configs mixed
valid_with before v recs hand more mixed site x site_is valid y =
    valid_exchanged site.configs site.opening valid recs hand more mixed y (valid_in_hand before v recs hand x site site_is valid)

-- what an exchange of a channel's records asks for
pub has_states_still : (site : SiteData) (channel : Channel) (states after : List RecState) → AreOver site → length site.names ≡ length site.configs → AreValid site.configs site.opening → states ≡ site.opening → length after ≡ length states → IsTrue (is_channel site channel)
    → AllByRecursion (λ rec. rec < length after) (footprint_of site channel)
has_states_still site channel states after over named valid same long is =
    subst (λ (n : ℕ). AllByRecursion (λ (rec : ℕ). rec < n) (footprint_of site channel)) (sym long) (has_states site channel states over named valid same is)

pub ports_and_states : {P : Type 0} (site : SiteData) (ports : List (Option P)) (states : List RecState) → AreValid site.configs site.opening → states ≡ site.opening → ports_there ports ≡ ports_wanted site.configs → length ports ≡ length states
ports_and_states site ports states valid same wanted = many_ports ports site.configs wanted ∙ valid_count site.configs site.opening valid ∙ ap length (sym same)
