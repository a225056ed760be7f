-- What the calls of subscriptions come to, behind what others did before the hub was taken.
use Rattle.std.proofs.Common.{◌≡◌, ℕ, true, List, [], Option, None, Some, Err, reverse, ◌∙◌, ap, subst}
use Rattle.std.specs.FinSet.{FinSet}
use Rattle.std.specs.Ordering.{nat_cmp}
use Rattle.std.specs.Prelude.{IfSome}
use Rattle.rec_kinds.specs.declared.state.RecState.{RecState}
use Rattle.histories.specs.History.{Every}
use Rattle.hall_locks.specs.Hall.{numbers_of, with_hub, WasShown}
use Rattle.hall_locks.specs.Hands.{in_visit, AsTaken, Found}
use Rattle.mon_queue.specs.Told.{IsUpdateOf}
use Rattle.mon_queue.specs.declared.update.Update.{Update}
use Rattle.mon_shown.specs.Keeping.{tree_of}
use Rattle.mon_shown.specs.Slots.{slot_in, Stand}
use Rattle.mon_shown.specs.declared.slots.NotBegun.{NotBegun}
use Rattle.mon_shown.specs.declared.watching.Watching.{Watching}
use Rattle.desk_api.specs.Calls.{Calls, AreSubscribe, EndsAtItsMarks, EndsAtLastRoll, FitsSubscribed, IsEnding, IsPop, OnSubscribed, now, with_mark}
use Rattle.desk_api.specs.History.{state_at}
use Rattle.desk_api.specs.Living.{living, lives}
use Rattle.desk_api.specs.Sites.{footprint_of}
use Rattle.desk_api.specs.Triggers.{channel_view, may_be_watched}
use Rattle.desk_api.specs.Types.{type_of}
use Rattle.desk_api.specs.Views.{value_of}
use Rattle.desk_api.specs.declared.channel.Channel.{Channel}
use Rattle.desk_api.specs.declared.history.Base.{Base}
use Rattle.desk_api.specs.declared.history.SiteData.{SiteData}
use Rattle.desk_api.specs.declared.mark.Mark.{Mark}
use Rattle.desk_api.specs.declared.sub.SubAnswer.{SubAnswer}
use Rattle.desk_core.specs.Subscribing.{dropped, popped, IsNotBegunNow}
use Rattle.desk_core.proofs.Keeping.{ended_calls, ended_ends, ended_rolled, left_calls, left_ends, left_rolled, popped_calls, popped_ends, popped_fits, LogsTellTypes}
use Rattle.desk_hub.specs.Seats.{Subs}
use Rattle.desk_hub.specs.Steps.{Ends, Pops, StartsNot}
use Rattle.desk_hub.proofs.Logs.{marked}
use Rattle.desk_shared.specs.Exchanges.{AreExchanged}
use Rattle.desk_shared.specs.Hands.{states_of, IsBehind, Visits}
use Rattle.desk_shared.specs.Records.{Sight, records, seat_of}
use Rattle.desk_shared.specs.declared.books.Books.{Books}
use Rattle.desk_shared.specs.declared.records.RecCell.{RecCell}
use Rattle.desk_shared.proofs.Behind.{behind, ends_behind, lives_behind, same_log, subscribed_behind}
use Rattle.desk_shared.proofs.Gotten.{LooksShow}
use Rattle.desk_shared.proofs.Handed.{has_hub, others_before, visits_of}
use Rattle.desk_shared.proofs.Returned.{hand_again, states_again}
use Rattle.desk_shared.proofs.Subscribed.{shown_here}

module _ {P : Type 0} where
  -- above the cells of records
  pub hub_behind : (before v w : Sight) (hub : Books) (recs : List ℕ) (states : List RecState) → Visits before v recs states → w ≡ with_hub v w.seen hub → Found (records {P = P}) v w.seen hub → IsBehind before w hub recs states
  hub_behind before v w hub recs states x is found = record {
    has = has_hub {P = P} before v w hub recs states x is found;
    others = others_before {P = P} before v w hub recs states x is found;
  }

  -- above none
  pub hub_alone : (before v w : Sight) (hub : Books) (footprint : List ℕ) (cells : List (RecCell P)) → footprint ≡ [] → numbers_of v.cells ≡ reverse footprint → AsTaken (records {P = P}) v cells → v ≡ in_visit before v.bound v.cells
      → Every (WasShown (records {P = P}) before.seen.base) v.cells → w ≡ with_hub v w.seen hub → Found (records {P = P}) v w.seen hub → IsBehind before w hub [] (states_of cells)
  hub_alone before v w hub footprint cells none numbers taken same was is found =
      hub_behind before v w hub [] (states_of cells) (visits_of before v [] footprint cells none numbers taken same was) is found

module _ (before w u : Sight) (hub : Books) (recs : List ℕ) (states : List RecState) (x : IsBehind before w hub recs states) where
  pub lives_there : (slot : ℕ) → lives before.log slot ≡ true → lives w.log slot ≡ true
  lives_there slot is = lives_behind (seat_of before) (seat_of w) (seat_of w) x.others slot is

  pub site_there : (site : SiteData) → before.seen.base.site ≡ site → w.seen.base.site ≡ site
  site_there site is = ap (λ (b : Base). b.site) x.others.grows.base ∙ is

  pub stand_there : (site : SiteData) → before.seen.base.site ≡ site → Stand (may_be_watched site) (channel_view site) hub.subs
  stand_there site is = subst (λ (z : SiteData). Stand (may_be_watched z) (channel_view z) hub.subs) (site_there site is) x.has.own.stands.stand

  -- a pop
  module _ (slot : ℕ) (update : Option Update) (more : Subs) (pops : Pops hub.subs slot update more) (living_ : lives before.log slot ≡ true) (noted : seat_of u ≡ with_mark (seat_of w) (popped slot update)) where
    pub pop_calls : Calls (seat_of before) (seat_of u) (IsPop slot update)
    pop_calls = behind (seat_of before) (seat_of w) (seat_of u) x.others (IsPop slot update)
        (popped_calls hub.subs more slot update pops (seat_of w) (seat_of u) x.has.own (lives_there slot living_) x.has.legal noted)

    pub pop_ends : EndsAtItsMarks (seat_of before) (seat_of u)
    pop_ends = ends_behind (seat_of before) (seat_of w) (seat_of u) x.others
        (popped_ends hub.subs more slot update pops (seat_of w) (seat_of u) x.has.own (lives_there slot living_) x.has.legal noted)

  -- what is popped fits what the log tells
  pub pop_fits : LogsTellTypes → (slot : ℕ) (o : Option Update) → IfSome o (λ u. (y : Watching Channel) → slot_in hub.subs slot ≡ Some y → IsUpdateOf (tree_of y) u) → IfSome o (FitsSubscribed (seat_of before) slot)
  pop_fits tell slot o each = same o (popped_fits tell hub.subs slot (seat_of w) x.has.own o each) where
    same : (p : Option Update) → IfSome p (FitsSubscribed (seat_of w) slot) → IfSome p (FitsSubscribed (seat_of before) slot)
    same None fits = tt
    same (Some up) fits = λ l there.
        subst (λ (b : Base). IsUpdateOf (type_of b.site l.channel) up) x.others.grows.base
        (fits l (ap (λ (log : List Mark). living log slot) (same_log (seat_of before) (seat_of w) (seat_of w) x.others) ∙ there))

  -- an ending
  module _ (site : SiteData) (slot : ℕ) (more : Subs) (ends : Ends site hub.subs slot more) (site_is : before.seen.base.site ≡ site) (living_ : lives before.log slot ≡ true) (noted : seat_of u ≡ with_mark (seat_of w) (dropped (seat_of w) slot)) where
    pub end_calls : Calls (seat_of before) (seat_of u) (IsEnding slot)
    end_calls = behind (seat_of before) (seat_of w) (seat_of u) x.others (IsEnding slot)
        (ended_calls site hub.subs more slot ends (seat_of w) (seat_of u) (site_there site site_is) x.has.own (lives_there slot living_) x.has.legal noted)

    pub end_ends : EndsAtItsMarks (seat_of before) (seat_of u)
    end_ends = ends_behind (seat_of before) (seat_of w) (seat_of u) x.others
        (ended_ends site hub.subs more slot ends (seat_of w) (seat_of u) (site_there site site_is) x.has.own (lives_there slot living_) x.has.legal noted)

    pub end_rolled : EndsAtLastRoll (seat_of u)
    end_rolled = ended_rolled site hub.subs more slot ends (seat_of w) (seat_of u) (site_there site site_is) x.has.own (lives_there slot living_) x.has.legal noted

  -- none begins
  module _ (more : Subs) (stand : Stand (may_be_watched w.seen.base.site) (channel_view w.seen.base.site) more) (cause : NotBegun) (answer : SubAnswer) (told : IsNotBegunNow (seat_of w) (seat_of u) cause answer) where
    pub unbegun_calls : (channel : Channel) (mask : FinSet nat_cmp) (size : ℕ) → StartsNot hub.subs more cause → Calls (seat_of before) (seat_of u) (AreSubscribe channel mask size (Err answer))
    unbegun_calls channel mask size starts_not = behind (seat_of before) (seat_of w) (seat_of u) x.others (AreSubscribe channel mask size (Err answer))
        (left_calls (λ h subs seat log mark aside k. marked h subs seat log k mark aside) hub.subs more (seat_of w) (seat_of u) x.has.own stand x.has.legal channel mask size cause answer starts_not told)

    pub unbegun_rolled : OnSubscribed (Err answer) (EndsAtLastRoll (seat_of u))
    unbegun_rolled = left_rolled (λ h subs seat log mark aside k. marked h subs seat log k mark aside) hub.subs more (seat_of w) (seat_of u) x.has.own stand x.has.legal cause answer told

    pub unbegun_ends : OnSubscribed (Err answer) (EndsAtItsMarks (seat_of before) (seat_of u))
    unbegun_ends = subscribed_behind (seat_of before) (seat_of w) (seat_of u) x.others (Err answer)
        (left_ends (λ h subs seat log mark aside k. marked h subs seat log k mark aside) hub.subs more (seat_of w) (seat_of u) x.has.own stand x.has.legal cause answer told)

-- ---- with the records of a channel in hand

pub same_exchange : (recs fp : List ℕ) (hand more states opening mixed : List RecState) → recs ≡ fp → states ≡ opening → AreExchanged recs hand more states mixed → AreExchanged fp hand more opening mixed
same_exchange recs fp hand more states opening mixed same opens x = subst (λ (z : List ℕ × List RecState). AreExchanged z.0 hand more z.1 mixed) (λ i. (same i, opens i)) x

-- The hub was taken above the records of a channel, whose states stand among those of the opening.
pub record IsWatched (before w : Sight) (hub : Books) (site : SiteData) (channel : Channel) (hand more mixed : List RecState) : Type 0 where
  pub behind : IsBehind before w hub (footprint_of site channel) hand
  pub site_is : w.seen.base.site ≡ site
  pub exchanged : AreExchanged (footprint_of site channel) hand more site.opening mixed
  pub shown : value_of site channel mixed ≡ value_of site channel (state_at w.seen (now (seat_of w)))

pub is_watched : {P : Type 0} → LooksShow → (before v w : Sight) (hub : Books) (site : SiteData) (channel : Channel) (recs : List ℕ) (hand more mixed states : List RecState) → Visits before v (footprint_of site channel) hand → w ≡ with_hub v w.seen hub
    → Found (records {P = P}) v w.seen hub → before.seen.base.site ≡ site → states ≡ site.opening → recs ≡ footprint_of site channel → AreExchanged recs hand more states mixed → IsWatched before w hub site channel hand more mixed
is_watched {P} shows before v w hub site channel recs hand more mixed states x is found site_is opens same y =
    let b = hub_behind {P = P} before v w hub (footprint_of site channel) hand x is found in
    let there = site_there before w w hub (footprint_of site channel) hand b site site_is in
    let z = same_exchange recs (footprint_of site channel) hand more states site.opening mixed same opens y in record {
      behind = b;
      site_is = there;
      exchanged = z;
      shown = shown_here shows w hub site channel hand more mixed there b.has z;
    }

-- they are then put back
pub all_again : (site : SiteData) (channel : Channel) (hand more mixed : List RecState) → AreExchanged (footprint_of site channel) hand more site.opening mixed → (recs : List ℕ) (held back states after : List RecState) → recs ≡ footprint_of site channel
    → held ≡ more → states ≡ mixed → AreExchanged recs held back states after → (back ≡ hand) × (after ≡ site.opening)
all_again site channel hand more mixed x recs held back states after same is mixed_is y =
    let z = subst (λ (l : List RecState). AreExchanged (footprint_of site channel) l back mixed after) is (same_exchange recs (footprint_of site channel) held back states mixed after same mixed_is y) in
    (hand_again (footprint_of site channel) hand more back site.opening mixed after x z, states_again (footprint_of site channel) hand more back site.opening mixed after x z)
