-- What calls of subscriptions owe and add, with the hub in hand.
use Rattle.std.proofs.Common.{◌≡◌, ℕ, ◌+◌, true, List, [], ◌∷◌, ◌++◌, length, take, Option, None, Some, Ok, inr, refl, sym, ◌∙◌, ap, subst, arith}
use Rattle.std.proofs.Math.Seq.{take-length}
use Rattle.std.proofs.lemmas.Bool.{false≢true}
use Rattle.std.proofs.lemmas.List.{length-append}
use Rattle.std.specs.FinSet.{FinSet}
use Rattle.std.specs.Ordering.{nat_cmp}
use Rattle.std.specs.Prelude.{is_some}
use Rattle.pvd_value.specs.Data.{Data}
use Rattle.pvd_value.specs.LeafValues.{leaf_values}
use Rattle.rec_kinds.specs.declared.state.RecState.{RecState}
use Rattle.hall_locks.specs.Hands.{MayLook}
use Rattle.journal_core.proofs.Growing.{replayed_count}
use Rattle.mon_queue.specs.declared.update.Update.{Update}
use Rattle.mon_shown.specs.Rolls.{alive}
use Rattle.mon_shown.specs.Slots.{SlotsStay, Stand}
use Rattle.mon_shown.specs.declared.roll.RollItem.TheVariants as items
use Rattle.mon_shown.specs.declared.slots.NotBegun.TheVariants.{TooMany, NoMemory}
use Rattle.mon_shown.specs.declared.watching.Watching.{Watching}
use Rattle.desk_api.specs.Calls.{Calls, AreSubscribe, EndsAtItsMarks, EndsAtLastMark, EndsAtLastRoll, now, with_mark}
use Rattle.desk_api.specs.History.{History, Item, commits, roll, state_at}
use Rattle.desk_api.specs.Living.{living, lives}
use Rattle.desk_api.specs.Marks.{IsTrueBegun, IsTrueDropped, IsTruePopped}
use Rattle.desk_api.specs.Sites.{footprint_of}
use Rattle.desk_api.specs.Triggers.{channel_view, may_be_watched}
use Rattle.desk_api.specs.Views.{value_of}
use Rattle.desk_api.specs.declared.channel.Channel.{Channel}
use Rattle.desk_api.specs.declared.history.SiteData.{SiteData}
use Rattle.desk_api.specs.declared.mark.Mark.{Mark}
use Rattle.desk_api.specs.declared.mark.Mark.TheVariants.{Begun, Dropped}
use Rattle.desk_api.specs.declared.mark.Seat.{Seat}
use Rattle.desk_api.proofs.Adding.{as_many}
use Rattle.desk_core.specs.Subscribing.{begun_in, crowded, dropped, popped}
use Rattle.desk_core.proofs.Marking.{item_adds, item_ends, item_rolls, same_seen}
use Rattle.desk_core.proofs.Reading.{shows_at_once, whole_wanted}
use Rattle.desk_hub.specs.Seats.{Subs, has_slot, only, KeepsSeat, KeepsSlot}
use Rattle.desk_hub.specs.Steps.{Ends, KeepsAll, Pops, Starts, StartsNot}
use Rattle.desk_hub.proofs.Logs.{marked}
use Rattle.desk_shared.specs.Exchanges.{AreExchanged}
use Rattle.desk_shared.specs.Hands.{states_of, HasHub}
use Rattle.desk_shared.specs.Records.{Sight, base_of, records, seat_of}
use Rattle.desk_shared.specs.declared.books.Books.{Books}
use Rattle.desk_shared.specs.declared.records.RecCell.{RecCell}
use Rattle.desk_shared.proofs.Gotten.{LooksShow}
use Rattle.desk_shared.proofs.Marked.{at_any, is_entry, may_look, may_look_aside, may_quit}

-- the same slots are kept as well
same_slots : (h : History) (subs more : Subs) (seat : ℕ) (log : List Mark) → Stand (may_be_watched h.base.site) (channel_view h.base.site) more → SlotsStay subs more → KeepsSeat h subs seat log → KeepsSeat h more seat log
same_slots h subs more seat log stand stay k = record {
  stands = record { stand = stand; held = λ slot. ap (λ (o : Option (Watching Channel)). is_some o) (stay slot) ∙ k.stands.held slot };
  each = λ slot. subst (λ (o : Option (Watching Channel)). KeepsSlot h (living log slot) (only (has_slot h seat slot) o)) (sym (stay slot)) (k.each slot);
}

-- the slots are of the site of the history
pub stand_here : (v : Sight) (hub : Books) (recs : List ℕ) (states : List RecState) (site : SiteData) → HasHub v hub recs states → v.seen.base.site ≡ site → Stand (may_be_watched site) (channel_view site) hub.subs
stand_here v hub recs states site x site_is = subst (λ (z : SiteData). Stand (may_be_watched z) (channel_view z) hub.subs) site_is x.own.stands.stand

-- Where the hub is in hand with these records, whose cells show what they showed, the books may be given back with the
-- same entries.
module _ {P : Type 0} (v : Sight) (hub next : Books) (recs : List ℕ) (states : List RecState) (cells : List (RecCell P)) (x : HasHub v hub recs states) (same : states_of cells ≡ states) (base : base_of next ≡ base_of hub)
    (entries : next.history.entries ≡ hub.history.entries) where
  abbrev s : Seat
  s = seat_of v

  pub may_pop : (slot : ℕ) (update : Option Update) → Pops hub.subs slot update next.subs → lives v.log slot ≡ true → MayLook (records {P = P}) v next cells (Some (popped slot update (now s)))
  may_pop slot update pops living_ =
      let mark : Mark = popped slot update (now s) in
      let is : (with_mark s (at_any mark)).seen ≡ v.seen = same_seen s (at_any mark) refl in
      let taken : KeepsAll v.seen v.seen hub.subs next.subs v.number v.log (mark ∷ []) × IsTruePopped v.seen v.log (now s) slot update =
      subst (λ (n : ℕ). KeepsAll v.seen v.seen hub.subs next.subs v.number v.log (popped slot update n ∷ []) × IsTruePopped v.seen v.log n slot update) (sym (as_many v.seen)) (pops v.seen v.number v.log x.own living_) in
      may_look v hub next recs states cells mark x same base entries (λ e. false≢true (ap is_entry e))
      (subst (λ (h : History). IsTruePopped h v.log (now s) slot update) (sym is) taken.1)
      (subst (λ (h : History). KeepsAll v.seen h hub.subs next.subs v.number v.log (mark ∷ [])) (sym is) taken.0)

  pub may_drop : (site : SiteData) (slot : ℕ) → v.seen.base.site ≡ site → Ends site hub.subs slot next.subs → lives v.log slot ≡ true → MayLook (records {P = P}) v next cells (Some (dropped s slot (now s)))
  may_drop site slot site_is ends living_ =
      let mark : Mark = dropped s slot (now s) in
      let left : Seat = with_mark s (at_any mark) in
      let ended : KeepsAll v.seen left.seen hub.subs next.subs v.number v.log (mark ∷ []) × IsTrueDropped left.seen v.number v.log (now s) (length (roll v.seen)) slot =
      subst (λ (n : ℕ). KeepsAll v.seen left.seen hub.subs next.subs v.number v.log (Dropped n (length (roll v.seen)) slot ∷ []) × IsTrueDropped left.seen v.number v.log n (length (roll v.seen)) slot) (sym (as_many v.seen))
      (ends v.seen left.seen v.number v.log site_is (item_rolls s (at_any mark) (items.Ends slot) refl) x.own living_) in
      may_look v hub next recs states cells mark x same base entries (λ e. false≢true (ap is_entry e)) ended.1 ended.0

  -- where none begins
  module _ (stand : Stand (may_be_watched v.seen.base.site) (channel_view v.seen.base.site) next.subs) where
    pub may_crowd : StartsNot hub.subs next.subs TooMany → MayLook (records {P = P}) v next cells (Some (crowded s 1024 (now s)))
    may_crowd n =
        let all : alive (roll v.seen) ≡ 1024 = n.1 v.seen x.own.stands in
        may_look_aside (λ h subs seat log mark aside k. marked h subs seat log k mark aside) v hub next recs states cells (crowded s 1024 (now s)) x same base entries
        (λ k log kept. same_slots v.seen hub.subs next.subs k log stand n.0 kept) refl (λ e. false≢true (ap is_entry e)) (λ slot o. refl)
        (record { within = omega arith; within_roll = omega arith; count_is = sym all ∙ ap alive (sym (take-length (roll v.seen))); full = refl })

    pub may_leave : StartsNot hub.subs next.subs NoMemory → MayLook (records {P = P}) v next cells None
    may_leave stay = may_quit v hub next recs states cells x same base entries (λ k log kept. same_slots v.seen hub.subs next.subs k log stand stay kept)

-- the roll of one item more is one longer
longer : {A : Type 0} (xs ys : List A) (x : A) → ys ≡ xs ++ x ∷ [] → length xs + 1 ≡ length ys
longer xs ys x is = sym (ap (λ (z : List _). length z) is ∙ length-append xs (x ∷ []))

-- a beginning
module _ (v : Sight) (hub next : Books) (recs : List ℕ) (states : List RecState) (x : HasHub v hub recs states) (site : SiteData) (slot : ℕ) (channel : Channel) (requested mask : FinSet nat_cmp) (size : ℕ) (given : List RecState)
    (site_is : v.seen.base.site ≡ site) (mask_is : requested ≡ mask) (starts : Starts site hub.subs slot channel requested size given next.subs) (shown : value_of site channel given ≡ value_of site channel (state_at v.seen (now (seat_of v)))) where
  abbrev sight : Seat
  sight = seat_of v

  abbrev begins : ℕ → Mark
  begins = begun_in sight slot channel mask size

  abbrev begun : Seat
  begun = with_mark sight begins

  abbrev item : Item
  item = items.Begins slot channel mask size

  both : KeepsAll v.seen begun.seen hub.subs next.subs v.number v.log (begins (now sight) ∷ []) × IsTrueBegun begun.seen v.number v.log (now sight) (length (roll v.seen)) slot channel mask size
  both =
      subst (λ (n : ℕ). KeepsAll v.seen begun.seen hub.subs next.subs v.number v.log (Begun n (length (roll v.seen)) slot channel mask size ∷ []) × IsTrueBegun begun.seen v.number v.log n (length (roll v.seen)) slot channel mask size) (sym (as_many v.seen))
      (subst (λ (m : FinSet nat_cmp). Starts site hub.subs slot channel m size given next.subs) mask_is starts v.seen begun.seen v.number v.log site_is (item_rolls sight begins item refl)
      (λ n wanted. ap (λ (d : Data). leaf_values (channel_view site channel).ty d n) (shown ∙ ap (λ (m : ℕ). value_of site channel (state_at v.seen m)) (as_many v.seen))) x.own)

  pub may_begin : {P : Type 0} (cells : List (RecCell P)) → states_of cells ≡ states → base_of next ≡ base_of hub → next.history.entries ≡ hub.history.entries → MayLook (records {P = P}) v next cells (Some (begins (now sight)))
  may_begin {P} cells same base entries = may_look v hub next recs states cells (begins (now sight)) x same base entries (λ e. false≢true (ap is_entry e)) both.1 both.0

  module _ (t : Seat) (noted : t ≡ with_mark sight (begun_in sight slot channel mask size)) where
    pub begun_calls : Calls sight t (AreSubscribe channel mask size (Ok (record { slot = slot })))
    begun_calls = subst (λ (z : Seat). Calls sight z (AreSubscribe channel mask size (Ok (record { slot = slot })))) (sym noted) (record {
      marks = begins (now sight) ∷ [];
      adds = item_adds sight begins item refl refl refl both.1 x.legal;
      named = record { at = now sight; index = length (roll v.seen); marks_are = refl };
    })

    pub begun_ends : EndsAtItsMarks sight t
    begun_ends = inr (subst EndsAtLastMark (sym noted) (item_ends sight begins item refl refl))

    pub begun_rolled : EndsAtLastRoll t
    begun_rolled = subst EndsAtLastRoll (sym noted) (record {
      before = v.log;
      mark = begins (now sight);
      log_is = refl;
      roll_is = ap (λ (n : ℕ). Some n) (longer (roll v.seen) (roll begun.seen) (v.number, item) (item_rolls sight begins item refl).roll_is);
    })

-- what the channel shows of the states in hand among those of the opening is what it shows at the end of the history
pub shown_here : LooksShow → (v : Sight) (hub : Books) (site : SiteData) (channel : Channel) (hand more mixed : List RecState) → v.seen.base.site ≡ site → HasHub v hub (footprint_of site channel) hand
    → AreExchanged (footprint_of site channel) hand more site.opening mixed → value_of site channel mixed ≡ value_of site channel (state_at v.seen (now (seat_of v)))
shown_here shows v hub site channel hand more mixed site_is x y =
    sym (shows_at_once shows site channel (Some true) mixed hand (whole_wanted site channel) (sym y.long) y.given)
    ∙ shows_at_once shows site channel (Some true) (state_at v.seen (now (seat_of v))) hand (whole_wanted site channel)
    (ap (λ (z : SiteData). length z.opening) (sym site_is) ∙ sym (replayed_count v.seen.base.site.opening (take (now (seat_of v)) (commits v.seen)))) x.finds
