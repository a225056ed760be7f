-- What a desk that nobody shares keeps of its subscriptions.
use Rattle.std.proofs.Common.{length-append, ◌≡◌, ℕ, ◌+◌, true, List, [], ◌∷◌, ◌++◌, length, Option, None, Some, Ok, Err, inr, refl, sym, ◌∙◌, ap, subst, arith}
use Rattle.std.specs.Prelude.{is_some, IfSome}
use Rattle.std.proofs.Math.Seq.{take-length}
use Rattle.std.proofs.lemmas.List.{append-nil}
use Rattle.std.specs.FinSet.{FinSet}
use Rattle.std.specs.Ordering.{nat_cmp}
use Rattle.pvd_type.specs.Tree.{Tree}
use Rattle.rec_kinds.specs.declared.state.RecState.{RecState}
use Rattle.histories.specs.History.{tagged}
use Rattle.histories.specs.declared.story.Deed.TheVariants as deeds
use Rattle.histories.proofs.Stories.{entries_append, roll_by_seat_append}
use Rattle.journal_core.specs.Histories.{Journal, written}
use Rattle.journal_core.specs.declared.entry.Entry.{Entry}
use Rattle.mon_queue.specs.Shown.{seen}
use Rattle.mon_queue.specs.Told.{IsUpdateOf}
use Rattle.mon_queue.specs.declared.update.Update.{Update}
use Rattle.mon_shown.specs.Channels.{watch}
use Rattle.mon_shown.specs.Keeping.{tree_of, watch_of}
use Rattle.mon_shown.specs.Rolls.{alive}
use Rattle.mon_shown.specs.Slots.{slot_in, SlotsStay, Stand}
use Rattle.mon_shown.specs.declared.roll.RollItem.TheVariants as items
use Rattle.mon_shown.specs.declared.slots.NotBegun.{NotBegun}
use Rattle.mon_shown.specs.declared.slots.NotBegun.TheVariants.{TooMany, NoMemory}
use Rattle.mon_shown.specs.declared.watching.Watching.{Watching}
use Rattle.desk_api.specs.History.{History, Item, roll, state_at, IsLegal}
use Rattle.desk_api.specs.Living.{Living, living, lives}
use Rattle.desk_api.specs.Marks.{deed_of, IsTrueBegun, IsTrueCrowded, IsTrueDropped, IsTruePopped}
use Rattle.desk_api.specs.Calls.{Calls, AreSubscribe, IsEnding, IsPop, FitsSubscribed, EndsAtItsMarks, EndsAtLastMark, OnSubscribed, EndsAtLastRoll, now, with_mark}
use Rattle.desk_api.specs.Triggers.{channel_view, may_be_watched}
use Rattle.desk_api.specs.Types.{type_of}
use Rattle.desk_api.proofs.Adding.{adds_nothing, as_many}
use Rattle.desk_api.specs.declared.channel.Channel.{Channel}
use Rattle.desk_api.specs.declared.history.Base.{Base}
use Rattle.desk_api.specs.declared.history.SiteData.{SiteData}
use Rattle.desk_api.specs.declared.mark.Mark.{Mark}
use Rattle.desk_api.specs.declared.mark.Mark.TheVariants.{Entered, Overweight, Begun, Popped, Dropped}
use Rattle.desk_api.specs.declared.mark.Seat.{Seat}
use Rattle.desk_api.specs.declared.put.PutAnswer.{PutAnswer}
use Rattle.desk_api.specs.declared.put.PutAnswer.TheVariants as put_answers
use Rattle.desk_api.specs.declared.sub.SubAnswer.{SubAnswer}
use Rattle.desk_api.specs.declared.sub.SubAnswer.TheVariants as answers
use Rattle.desk_hub.specs.Seats.{Subs, has_slot, only, IsAside, IsTyped, KeepsSeat, KeepsSlot}
use Rattle.desk_hub.specs.Seats as hub
use Rattle.desk_hub.specs.Steps.{Commits, Ends, KeepsAll, Pops, Posts, Starts, StartsNot}
use Rattle.desk_core.specs.Begun.{Enters}
use Rattle.desk_core.specs.Looking.{look_of, looked, looked_by}
use Rattle.desk_core.specs.Standing.{Stands}
use Rattle.desk_core.specs.Subscribing.{begun_in, crowded, dropped, popped, IsNotBegunNow}
use Rattle.desk_core.proofs.Marking.{looks, looks_end, same_seen, still, item_rolls, item_legal, item_adds, item_ends, item_stands}

-- what is kept of the only seat
abbrev pub Kept : Subs → Seat → Type 0
Kept subs s = KeepsSeat s.seen subs s.number s.log

-- a mark that is of no subscription, and of no entry, keeps what is kept
abbrev pub MarksKeep : Type 0
MarksKeep = (h : History) (subs : Subs) (seat : ℕ) (log : List Mark) (mark : Mark) → IsAside mark → KeepsSeat h subs seat log → KeepsSeat h subs seat (log ++ mark ∷ [])

module _ (keep : MarksKeep) (subs : Subs) where
  pub aside_kept : (s : Seat) (mark : ℕ → Mark) → deed_of (mark (now s)) ≡ [] → IsAside (mark (now s)) → Kept subs s → Kept subs (with_mark s mark)
  aside_kept s mark none aside k =
      subst (λ (h : History). KeepsSeat h subs s.number (s.log ++ mark (now s) ∷ [])) (sym (same_seen s mark none)) (keep s.seen subs s.number s.log (mark (now s)) aside k)

  pub looks_kept : (channel : Channel) (cells : List RecState) (s : Seat) → Kept subs s → (ls : List (List ℕ)) → Kept subs (looked_by channel cells s ls)
  looks_kept channel cells s k [] = k
  looks_kept channel cells s k (recs ∷ ls) = looks_kept channel cells (looked channel cells s recs) (aside_kept s (look_of channel cells recs) refl (λ slot o. refl) k) ls

-- the site of the history is the desk's
module _ (site : SiteData) (subs : Subs) (s : Seat) (site_is : s.seen.base.site ≡ site) (k : Kept subs s) where
  pub kept_stand : Stand (may_be_watched site) (channel_view site) subs
  kept_stand = subst (λ (z : SiteData). Stand (may_be_watched z) (channel_view z) subs) site_is k.stands.stand

-- and back
pub stand_there : (site : SiteData) (subs : Subs) (s : Seat) → s.seen.base.site ≡ site → Stand (may_be_watched site) (channel_view site) subs → Stand (may_be_watched s.seen.base.site) (channel_view s.seen.base.site) subs
stand_there site subs s site_is stand = subst (λ (z : SiteData). Stand (may_be_watched z) (channel_view z) subs) (sym site_is) stand

-- ---- an entry

module _ (site : SiteData) (after : List RecState) (entry : Entry) (subs more : Subs) (posts : Posts site after entry subs more) (s t : Seat) (site_is : s.seen.base.site ≡ site) (k : Kept subs s)
    (looked : List ℕ) (found : List RecState) (after_is : after ≡ written (state_at s.seen (now s)) entry.writes) (marked : t ≡ with_mark s (λ at. Entered at entry looked found)) where
  abbrev enters : ℕ → Mark
  enters at = Entered at entry looked found

  abbrev entered : Seat
  entered = with_mark s enters

  commits_one : Commits s.seen entered.seen s.number entry
  commits_one = record {
    goes_on = record { base = refl; deeds = record { rest = tagged s.number (deeds.Entry entry ∷ []); whole = refl } };
    commits_are = entries_append s.seen.deeds (tagged s.number (deeds.Entry entry ∷ []));
    roll_is = roll_by_seat_append s.seen.deeds (tagged s.number (deeds.Entry entry ∷ [])) ∙ append-nil (roll s.seen);
  }

  after_there : after ≡ written (state_at s.seen (hub.now s.seen)) entry.writes
  after_there = after_is ∙ ap (λ (n : ℕ). written (state_at s.seen n) entry.writes) (as_many s.seen)

  pub entered_kept : Kept more t
  entered_kept = subst (Kept more) (sym marked)
      (subst (λ (n : ℕ). KeepsSeat entered.seen more s.number (s.log ++ Entered n entry looked found ∷ [])) (sym (as_many s.seen))
      (posts s.seen entered.seen s.number s.log looked found site_is commits_one (λ slot x is n wanted. ap (λ (z : List RecState). seen (watch_of (channel_view s.seen.base.site) x) z n) after_there) k).own)

-- where no entry is added
module _ (keep : MarksKeep) (subs more : Subs) (same : more ≡ subs) (entry : Entry) (looked : List ℕ) (found : List RecState) (limit done : ℕ) (old new : Journal) (s t : Seat) (k : Kept subs s) where
  pub refused_kept : (answer : PutAnswer) → Enters entry looked found limit done old new s t (Err answer) → Kept more t
  refused_kept answer e = subst (λ (z : Subs). Kept z t) (sym same) (left answer e) where
    left : (answer : PutAnswer) → Enters entry looked found limit done old new s t (Err answer) → Kept subs t
    left (put_answers.Refused refusal) e = absurd e
    left (put_answers.JournalFull kept_ weight_ limit_ done_) e =
        subst (Kept subs) (sym e.marked) (aside_kept keep subs s (λ at. Overweight at entry.footprint entry.actions kept_ weight_ limit_) refl (λ slot o. refl) k)
    left (put_answers.NoMemory done_) e = subst (Kept subs) (sym e.unmarked) k

-- the roll of one item more is one longer
longer : {A : Type 0} (xs ys : List A) (x : A) → ys ≡ xs ++ x ∷ [] → length xs + 1 ≡ length ys
longer xs ys x is = sym (ap (λ (z : List _). length z) is ∙ length-append xs (x ∷ []))

-- ---- a beginning

module _ (site : SiteData) (subs more : Subs) (slot : ℕ) (channel : Channel) (requested : FinSet nat_cmp) (size : ℕ) (states : List RecState) (starts : Starts site subs slot channel requested size states more) (mask : FinSet nat_cmp)
    (mask_is : requested ≡ mask) (s t : Seat) (site_is : s.seen.base.site ≡ site) (k : Kept subs s) (states_are : states ≡ state_at s.seen (now s)) (legal : IsLegal s.seen) (marked : t ≡ with_mark s (begun_in s slot channel mask size)) where
  abbrev begins : ℕ → Mark
  begins = begun_in s slot channel mask size

  abbrev begun : Seat
  begun = with_mark s begins

  abbrev item : Item
  item = items.Begins slot channel mask size

  both : KeepsAll s.seen begun.seen subs more s.number s.log (Begun (hub.now s.seen) (length (roll s.seen)) slot channel mask size ∷ []) × IsTrueBegun begun.seen s.number s.log (hub.now s.seen) (length (roll s.seen)) slot channel mask size
  both = subst (λ (m : FinSet nat_cmp). Starts site subs slot channel m size states more) mask_is starts s.seen begun.seen s.number s.log site_is (item_rolls s begins item refl)
      (λ n wanted. ap (λ (z : List RecState). seen (watch (channel_view site channel) mask) z n) (states_are ∙ sym (ap (state_at s.seen) (sym (as_many s.seen))))) k

  begun_true : IsTrueBegun begun.seen s.number s.log (now s) (length (roll s.seen)) slot channel mask size
  begun_true = subst (λ (n : ℕ). IsTrueBegun begun.seen s.number s.log n (length (roll s.seen)) slot channel mask size) (sym (as_many s.seen)) both.1

  pub begun_kept : Kept more t
  begun_kept = subst (Kept more) (sym marked)
      (subst (λ (n : ℕ). KeepsSeat begun.seen more s.number (s.log ++ Begun n (length (roll s.seen)) slot channel mask size ∷ [])) (sym (as_many s.seen)) both.0.own)

  pub begun_calls : Calls s t (AreSubscribe channel mask size (Ok (record { slot = slot })))
  begun_calls = subst (λ (z : Seat). Calls s z (AreSubscribe channel mask size (Ok (record { slot = slot })))) (sym marked) (record {
    marks = begins (now s) ∷ [];
    adds = item_adds s begins item refl refl refl begun_true legal;
    named = record { at = now s; index = length (roll s.seen); marks_are = refl };
  })

  pub begun_ends : EndsAtItsMarks s t
  begun_ends = inr (subst EndsAtLastMark (sym marked) (item_ends s begins item refl refl))

  pub begun_rolled : EndsAtLastRoll t
  begun_rolled = subst EndsAtLastRoll (sym marked) (record {
    before = s.log;
    mark = begins (now s);
    log_is = refl;
    roll_is = ap (λ (n : ℕ). Some n) (longer (roll s.seen) (roll begun.seen) (s.number, item) (item_rolls s begins item refl).roll_is);
  })

  pub begun_legal : IsLegal t.seen
  begun_legal = subst (λ (z : Seat). IsLegal z.seen) (sym marked) (item_legal s begins item refl legal)

  pub begun_base : t.seen.base ≡ s.seen.base
  begun_base = ap (λ (z : Seat). z.seen.base) marked

  pub begun_stands : {base : Base} {cells : List RecState} {journal : Journal} → Stands base cells journal s → Stands base cells journal t
  begun_stands {base} {cells} {journal} x = subst (Stands base cells journal) (sym marked) (item_stands s begins item refl x)

-- ---- none begins

-- the same slots are kept as well
same_slots : (h : History) (subs more : Subs) (seat : ℕ) (log : List Mark) → Stand (may_be_watched h.base.site) (channel_view h.base.site) more → SlotsStay subs more → KeepsSeat h subs seat log → KeepsSeat h more seat log
same_slots h subs more seat log stand stay k = record {
  stands = record { stand = stand; held = λ slot. ap (λ (o : Option (Watching Channel)). is_some o) (stay slot) ∙ k.stands.held slot };
  each = λ slot. subst (λ (o : Option (Watching Channel)). KeepsSlot h (living log slot) (only (has_slot h seat slot) o)) (sym (stay slot)) (k.each slot);
}

module _ (keep : MarksKeep) (subs more : Subs) (s t : Seat) (k : Kept subs s) (stand : Stand (may_be_watched s.seen.base.site) (channel_view s.seen.base.site) more) (legal : IsLegal s.seen) where
  abbrev crowds : ℕ → Mark
  crowds = crowded s 1024

  crowded_true : StartsNot subs more TooMany → IsTrueCrowded s.seen (now s) (length (roll s.seen)) 1024
  crowded_true n =
      let all : alive (roll s.seen) ≡ 1024 = n.1 s.seen k.stands in record {
        within = omega arith;
        within_roll = omega arith;
        count_is = sym all ∙ ap alive (sym (take-length (roll s.seen)));
        full = refl;
      }

  pub left_kept : (cause : NotBegun) (answer : SubAnswer) → StartsNot subs more cause → IsNotBegunNow s t cause answer → Kept more t
  left_kept TooMany answer n a = subst (Kept more) (sym a.1) (aside_kept keep more s crowds refl (λ slot o. refl) (same_slots s.seen subs more s.number s.log stand n.0 k))
  left_kept NoMemory answer n a = subst (Kept more) (sym a.1) (same_slots s.seen subs more s.number s.log stand n k)

  pub left_calls : (channel : Channel) (mask : FinSet nat_cmp) (size : ℕ) (cause : NotBegun) (answer : SubAnswer) → StartsNot subs more cause → IsNotBegunNow s t cause answer → Calls s t (AreSubscribe channel mask size (Err answer))
  left_calls channel mask size TooMany answer n a =
      subst (λ (z : Seat × SubAnswer). Calls s z.0 (AreSubscribe channel mask size (Err z.1))) (λ i. (sym a.1 i, sym a.0 i)) (record {
        marks = crowds (now s) ∷ [];
        adds = looks s crowds refl refl refl (crowded_true n) legal;
        named = record { at = now s; index = length (roll s.seen); marks_are = refl };
      })
  left_calls channel mask size NoMemory answer n a =
      subst (λ (z : Seat × SubAnswer). Calls s z.0 (AreSubscribe channel mask size (Err z.1))) (λ i. (sym a.1 i, sym a.0 i)) (record { marks = []; adds = adds_nothing s legal; named = refl })

  pub left_rolled : (cause : NotBegun) (answer : SubAnswer) → IsNotBegunNow s t cause answer → OnSubscribed (Err answer) (EndsAtLastRoll t)
  left_rolled TooMany answer a =
      subst (λ (z : Seat × SubAnswer). OnSubscribed (Err z.1) (EndsAtLastRoll z.0)) (λ i. (sym a.1 i, sym a.0 i)) (record {
        before = s.log;
        mark = crowds (now s);
        log_is = refl;
        roll_is = ap (λ (h : History). Some (length (roll h))) (sym (same_seen s crowds refl));
      })
  left_rolled NoMemory answer a = subst (λ (z : SubAnswer). OnSubscribed (Err z) (EndsAtLastRoll t)) (sym a.0) tt

  pub left_ends : (cause : NotBegun) (answer : SubAnswer) → IsNotBegunNow s t cause answer → OnSubscribed (Err answer) (EndsAtItsMarks s t)
  left_ends TooMany answer a = subst (λ (z : Seat × SubAnswer). OnSubscribed (Err z.1) (EndsAtItsMarks s z.0)) (λ i. (sym a.1 i, sym a.0 i)) (inr (looks_end s crowds refl refl))
  left_ends NoMemory answer a = subst (λ (z : SubAnswer). OnSubscribed (Err z) (EndsAtItsMarks s t)) (sym a.0) tt

  pub left_seen : (cause : NotBegun) (answer : SubAnswer) → IsNotBegunNow s t cause answer → t.seen ≡ s.seen
  left_seen TooMany answer a = ap (λ (z : Seat). z.seen) a.1 ∙ same_seen s crowds refl
  left_seen NoMemory answer a = ap (λ (z : Seat). z.seen) a.1

  pub left_stands : {base : Base} {cells : List RecState} {journal : Journal} → Stands base cells journal s → (cause : NotBegun) (answer : SubAnswer) → IsNotBegunNow s t cause answer → Stands base cells journal t
  left_stands {base} {cells} {journal} x TooMany answer a = subst (Stands base cells journal) (sym a.1) (still s crowds refl x)
  left_stands {base} {cells} {journal} x NoMemory answer a = subst (Stands base cells journal) (sym a.1) x

-- memory ran out before
pub unbegun_calls : (s : Seat) → IsLegal s.seen → (channel : Channel) (mask : FinSet nat_cmp) (size : ℕ) → Calls s s (AreSubscribe channel mask size (Err answers.NoMemory))
unbegun_calls s legal channel mask size = record { marks = []; adds = adds_nothing s legal; named = refl }

-- ---- a pop

-- what a pop takes is an update of the slot's type
typed_update : (t : Tree) (o : Option (Watching Channel)) (u : Update) → IsTyped t o → ((x : Watching Channel) → o ≡ Some x → IsUpdateOf (tree_of x) u) → IsUpdateOf t u
typed_update t None u typed each = absurd typed
typed_update t (Some x) u typed each = subst (λ (z : Tree). IsUpdateOf z u) typed (each x refl)

module _ (subs more : Subs) (slot : ℕ) (update : Option Update) (pops : Pops subs slot update more) (s t : Seat) (k : Kept subs s) (living_ : lives s.log slot ≡ true) (legal : IsLegal s.seen) (marked : t ≡ with_mark s (popped slot update)) where
  abbrev pop_mark : ℕ → Mark
  pop_mark = popped slot update

  taken : KeepsAll s.seen s.seen subs more s.number s.log (Popped (hub.now s.seen) slot update ∷ []) × IsTruePopped s.seen s.log (hub.now s.seen) slot update
  taken = pops s.seen s.number s.log k living_

  popped_true : IsTruePopped s.seen s.log (now s) slot update
  popped_true = subst (λ (n : ℕ). IsTruePopped s.seen s.log n slot update) (sym (as_many s.seen)) taken.1

  pub popped_seen : t.seen ≡ s.seen
  popped_seen = ap (λ (z : Seat). z.seen) marked ∙ same_seen s pop_mark refl

  pub popped_kept : Kept more t
  popped_kept = subst (Kept more) (sym marked) (subst (λ (h : History). KeepsSeat h more s.number (s.log ++ pop_mark (now s) ∷ [])) (sym (same_seen s pop_mark refl))
      (subst (λ (n : ℕ). KeepsSeat s.seen more s.number (s.log ++ pop_mark n ∷ [])) (sym (as_many s.seen)) taken.0.own))

  pub popped_calls : Calls s t (IsPop slot update)
  popped_calls = subst (λ (z : Seat). Calls s z (IsPop slot update)) (sym marked) (record {
    marks = pop_mark (now s) ∷ [];
    adds = looks s pop_mark refl refl refl popped_true legal;
    named = record { at = now s; marks_are = refl };
  })

  pub popped_ends : EndsAtItsMarks s t
  popped_ends = inr (subst EndsAtLastMark (sym marked) (looks_end s pop_mark refl refl))

  pub popped_legal : IsLegal t.seen
  popped_legal = subst IsLegal (sym popped_seen) legal

  pub popped_stands : {base : Base} {cells : List RecState} {journal : Journal} → Stands base cells journal s → Stands base cells journal t
  popped_stands {base} {cells} {journal} x = subst (Stands base cells journal) (sym marked) (still s pop_mark refl x)

-- a log tells the types of its subscriptions
abbrev pub LogsTellTypes : Type 0
LogsTellTypes = (h : History) (subs : Subs) (seat : ℕ) (log : List Mark) → KeepsSeat h subs seat log → (slot : ℕ) (l : Living) → living log slot ≡ Some l → IsTyped (type_of h.base.site l.channel) (slot_in subs slot)

module _ (tell : LogsTellTypes) (subs : Subs) (slot : ℕ) (s : Seat) (k : Kept subs s) where
  pub popped_fits : (o : Option Update) → IfSome o (λ u. (x : Watching Channel) → slot_in subs slot ≡ Some x → IsUpdateOf (tree_of x) u) → IfSome o (FitsSubscribed s slot)
  popped_fits None each = each
  popped_fits (Some u) each = λ l there. typed_update (type_of s.seen.base.site l.channel) (slot_in subs slot) u (tell s.seen subs s.number s.log k slot l there) each

-- ---- an ending

module _ (site : SiteData) (subs more : Subs) (slot : ℕ) (ends : Ends site subs slot more) (s t : Seat) (site_is : s.seen.base.site ≡ site) (k : Kept subs s) (living_ : lives s.log slot ≡ true) (legal : IsLegal s.seen)
    (marked : t ≡ with_mark s (dropped s slot)) where
  abbrev drops : ℕ → Mark
  drops = dropped s slot

  abbrev left : Seat
  left = with_mark s drops

  abbrev end : Item
  end = items.Ends slot

  ended : KeepsAll s.seen left.seen subs more s.number s.log (Dropped (hub.now s.seen) (length (roll s.seen)) slot ∷ []) × IsTrueDropped left.seen s.number s.log (hub.now s.seen) (length (roll s.seen)) slot
  ended = ends s.seen left.seen s.number s.log site_is (item_rolls s drops end refl) k living_

  ended_true : IsTrueDropped left.seen s.number s.log (now s) (length (roll s.seen)) slot
  ended_true = subst (λ (n : ℕ). IsTrueDropped left.seen s.number s.log n (length (roll s.seen)) slot) (sym (as_many s.seen)) ended.1

  pub ended_kept : Kept more t
  ended_kept = subst (Kept more) (sym marked) (subst (λ (n : ℕ). KeepsSeat left.seen more s.number (s.log ++ Dropped n (length (roll s.seen)) slot ∷ [])) (sym (as_many s.seen)) ended.0.own)

  pub ended_calls : Calls s t (IsEnding slot)
  ended_calls = subst (λ (z : Seat). Calls s z (IsEnding slot)) (sym marked) (record {
    marks = drops (now s) ∷ [];
    adds = item_adds s drops end refl refl refl ended_true legal;
    named = record { at = now s; index = length (roll s.seen); marks_are = refl };
  })

  pub ended_ends : EndsAtItsMarks s t
  ended_ends = inr (subst EndsAtLastMark (sym marked) (item_ends s drops end refl refl))

  pub ended_rolled : EndsAtLastRoll t
  ended_rolled = subst EndsAtLastRoll (sym marked) (record {
    before = s.log;
    mark = drops (now s);
    log_is = refl;
    roll_is = ap (λ (n : ℕ). Some n) (longer (roll s.seen) (roll left.seen) (s.number, end) (item_rolls s drops end refl).roll_is);
  })

  pub ended_legal : IsLegal t.seen
  ended_legal = subst (λ (z : Seat). IsLegal z.seen) (sym marked) (item_legal s drops end refl legal)

  pub ended_base : t.seen.base ≡ s.seen.base
  ended_base = ap (λ (z : Seat). z.seen.base) marked

  pub ended_stands : {base : Base} {cells : List RecState} {journal : Journal} → Stands base cells journal s → Stands base cells journal t
  ended_stands {base} {cells} {journal} x = subst (Stands base cells journal) (sym marked) (item_stands s drops end refl x)
