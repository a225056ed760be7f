-- A pop keeps what is kept of all seats.
use Rattle.std.specs.Prelude.{◌≡◌, ◌≢◌, ℕ, Bool, true, false, cond, List, [], ◌∷◌, ◌++◌, Option, None, Some, is_some, option_map, refl}
use Rattle.std.proofs.Common.{sym, ◌∙◌, ap, subst, arith, eqb}
use Rattle.mon_queue.specs.declared.update.Update.{Update}
use Rattle.mon_shown.specs.Channels.{ChannelView}
use Rattle.mon_shown.specs.Rolls.{holder, is_held}
use Rattle.mon_shown.specs.Slots.{slot_in, is_filled, Stand, SlotPopped, OtherSlotsStay}
use Rattle.mon_shown.specs.declared.watching.Watching.{Watching}
use Rattle.desk_api.specs.History.{History, roll}
use Rattle.desk_api.specs.Living.{Living, living, popped_too, IsOldest, PopsUpTo}
use Rattle.desk_api.specs.Marks.{IsTruePopped}
use Rattle.desk_api.specs.Triggers.{channel_view, may_be_watched}
use Rattle.desk_api.specs.declared.channel.Channel.{Channel}
use Rattle.desk_api.specs.declared.mark.Mark.{Mark}
use Rattle.desk_api.specs.declared.mark.Mark.TheVariants.{Popped}
use Rattle.desk_hub.specs.Seats.{Subs, now, only, has_slot, own_slot, KeepsSlot, SlotsStand, KeepsSeat}
use Rattle.desk_hub.specs.Steps.{KeepsAll, Pops}
use Rattle.desk_hub.proofs.Logs.{at_each, apart, if_here, if_else, some_of, living_more, not_of_another, lives_where_held, own_is, kept_in}
use Rattle.desk_hub.proofs.Living.{within, living_popped, oldest_popped}

filled_popped : (x : Option (Watching Channel)) (u : Option Update) (y : Option (Watching Channel)) → SlotPopped x u y → is_some y ≡ is_some x
filled_popped None u y p = ap is_some p.1
filled_popped (Some x) u None p = absurd p
filled_popped (Some x) u (Some y) p = refl

-- what the popped slot keeps, and what was taken
record IsPoppedIn (h : History) (l : Living) (u : Option Update) (y : Option (Watching Channel)) : Type 0 where
  keeps : KeepsSlot h (Some (popped_too (now h) u l)) y
  later : PopsUpTo l (now h)
  taken : IsOldest h l (now h) u

slot_popped : (h : History) (l : Living) (x : Option (Watching Channel)) (u : Option Update) (y : Option (Watching Channel)) → KeepsSlot h (Some l) x → SlotPopped x u y → IsPoppedIn h l u y
slot_popped h l None u y k p = absurd k
slot_popped h l (Some x) u None k p = absurd p
slot_popped h l (Some x) u (Some y) k p = record {
  keeps = living_popped h l x y u k p;
  later = k.later;
  taken = oldest_popped h l x y u k p;
}

module _ (subs more : Subs) (slot : ℕ) (u : Option Update) (pops : SlotPopped (slot_in subs slot) u (slot_in more slot)) (others : OtherSlotsStay subs slot more)
    (stays : (has : Channel → Bool) (shows : Channel → ChannelView) → Stand has shows subs → Stand has shows more) (h : History) where
  stand_popped : SlotsStand h subs → SlotsStand h more
  stand_popped st = record {
    stand = stays (may_be_watched h.base.site) (channel_view h.base.site) st.stand;
    held = at_each (λ s. is_filled more s ≡ is_held (roll h) s) slot
        (filled_popped (slot_in subs slot) u (slot_in more slot) pops ∙ st.held slot)
        (λ s e. ap is_some (others s (apart slot s e)) ∙ st.held s);
  }

  module _ (seat : ℕ) (log : List Mark) (t : KeepsSeat h subs seat log) (l : Living) (there : living log slot ≡ Some l) where
    holds : has_slot h seat slot ≡ true
    holds = sym (lives_where_held h subs seat log t slot) ∙ ap is_some there

    got : IsPoppedIn h l u (slot_in more slot)
    got = slot_popped h l (slot_in subs slot) u (slot_in more slot) (kept_in h subs seat log t slot l there) pops

    own_else : (s : ℕ) → eqb slot s ≡ false → (of : ℕ) (theirs : List Mark) → KeepsSeat h subs of theirs → KeepsSlot h (living theirs s) (own_slot h of more s)
    own_else s e of theirs k = subst (λ (x : Option (Watching Channel)). KeepsSlot h (living theirs s) (only (has_slot h of s) x)) (sym (others s (apart slot s e))) (k.each s)

    own_popped : KeepsSeat h more seat (log ++ Popped (now h) slot u ∷ [])
    own_popped = record {
      stands = stand_popped t.stands;
      each = λ s. subst (λ (o : Option Living). KeepsSlot h o (own_slot h seat more s)) (sym (living_more log (Popped (now h) slot u) s)) (step s);
    }
      where
        step : (s : ℕ) → KeepsSlot h (cond (eqb slot s) (option_map (popped_too (now h) u) (living log s)) (living log s)) (own_slot h seat more s)
        step = at_each (λ s. KeepsSlot h (cond (eqb slot s) (option_map (popped_too (now h) u) (living log s)) (living log s)) (own_slot h seat more s)) slot
            (subst (λ (o : Option Living). KeepsSlot h o (own_slot h seat more slot)) (sym (if_here slot (option_map (popped_too (now h) u) (living log slot)) (living log slot) ∙ ap (option_map (popped_too (now h) u)) there))
            (subst (KeepsSlot h (Some (popped_too (now h) u l))) (sym (own_is h subs seat log t more slot (ap is_some there))) got.keeps))
            (λ s e. subst (λ (o : Option Living). KeepsSlot h o (own_slot h seat more s)) (sym (if_else slot s (option_map (popped_too (now h) u) (living log s)) (living log s) e)) (own_else s e seat log t))

    others_popped : (other : ℕ) (theirs : List Mark) → other ≢ seat → KeepsSeat h subs other theirs → KeepsSeat h more other theirs
    others_popped other theirs ne k = record {
      stands = stand_popped k.stands;
      each = at_each (λ s. KeepsSlot h (living theirs s) (own_slot h other more s)) slot
          (let no = not_of_another seat other (holder (roll h) slot) ne holds in
          subst (KeepsSlot h (living theirs slot)) (ap (λ (b : Bool). only b (slot_in subs slot)) no ∙ sym (ap (λ (b : Bool). only b (slot_in more slot)) no)) (k.each slot))
          (λ s e. own_else s e other theirs k);
    }

    pub popped_all : KeepsAll h h subs more seat log (Popped (now h) slot u ∷ []) × IsTruePopped h log (now h) slot u
    popped_all = (
      record { own = own_popped; others = others_popped },
      record { within = omega (arith, within h); subscribed = l; there = there; later = got.later; taken = got.taken },
    )

pub pops_all : (subs more : Subs) (slot : ℕ) (u : Option Update) → SlotPopped (slot_in subs slot) u (slot_in more slot) → OtherSlotsStay subs slot more
    → ((has : Channel → Bool) (shows : Channel → ChannelView) → Stand has shows subs → Stand has shows more) → Pops subs slot u more
pops_all subs more slot u pops others stays h seat log t living_is =
    let found = some_of (living log slot) living_is in
    popped_all subs more slot u pops others stays h seat log t found.0 found.1
