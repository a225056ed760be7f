-- An ending keeps what is kept of all seats.
use Rattle.std.specs.Prelude.{◌≡◌, ◌≢◌, ℕ, Bool, true, false, cond, List, [], ◌∷◌, ◌++◌, length, Option, None, Some, is_some, refl}
use Rattle.std.proofs.Common.{sym, ◌∙◌, ap, subst, arith, eqb}
use Rattle.std.proofs.lemmas.Bool.{eq-eqb}
use Rattle.mon_shown.specs.Rolls.{freed, holder_with, holder, Follows}
use Rattle.mon_shown.specs.Slots.{slot_in, Stand, OtherSlotsStay}
use Rattle.mon_shown.specs.declared.roll.RollItem.TheVariants as items
use Rattle.mon_shown.specs.declared.watching.Watching.{Watching}
use Rattle.desk_api.specs.History.{History, Item, roll}
use Rattle.desk_api.specs.Living.{Living, living, PopsUpTo}
use Rattle.desk_api.specs.Marks.{IsTrueDropped}
use Rattle.desk_api.specs.Triggers.{channel_view, may_be_watched}
use Rattle.desk_api.specs.declared.channel.Channel.{Channel}
use Rattle.desk_api.specs.declared.history.SiteData.{SiteData}
use Rattle.desk_api.specs.declared.mark.Mark.{Mark}
use Rattle.desk_api.specs.declared.mark.Mark.TheVariants.{Dropped}
use Rattle.desk_hub.specs.Seats.{Subs, now, only, is_holder, has_slot, own_slot, KeepsSlot, SlotsStand, KeepsSeat}
use Rattle.desk_hub.specs.Steps.{KeepsAll, Rolls, Ends}
use Rattle.desk_hub.proofs.Logs.{at_each, if_here, if_else, some_of, living_more, not_of_another, its_holder, lives_where_held, kept_in}
use Rattle.desk_hub.proofs.Living.{within}
use Rattle.desk_hub.proofs.Rolling.{now_same, item_there, holder_now, stand_rolled, slot_else, seat_rolled}

-- the law of the roll, for an ending
abbrev pub EndsFollow : Type 0
EndsFollow = (roll : List (ℕ × Item)) (subs more : Subs) (seat slot : ℕ) → Follows roll subs → holder roll slot ≡ Some seat → OtherSlotsStay subs slot more → slot_in more slot ≡ None
    → Follows (roll ++ (seat, items.Ends slot) ∷ []) more

up_to : (h : History) (l : Living) (x : Option (Watching Channel)) → KeepsSlot h (Some l) x → PopsUpTo l (now h)
up_to h l None k = absurd k
up_to h l (Some x) k = k.later

module _ (law : EndsFollow) (subs more : Subs) (slot : ℕ) (gone : slot_in more slot ≡ None) (others : OtherSlotsStay subs slot more) (h k : History) (seat : ℕ) (r : Rolls h k seat (items.Ends slot))
    (stand : Stand (may_be_watched h.base.site) (channel_view h.base.site) more) (log : List Mark) (t : KeepsSeat h subs seat log) (l : Living) (there : living log slot ≡ Some l) where
  abbrev item : Item
  item = items.Ends slot

  aside : (s : ℕ) (o : Option ℕ) → eqb slot s ≡ false → holder_with s o (seat, item) ≡ o
  aside s o e = if_else slot s (freed seat o) o e

  holds : has_slot h seat slot ≡ true
  holds = sym (lives_where_held h subs seat log t slot) ∙ ap is_some there

  its : holder (roll h) slot ≡ Some seat
  its = its_holder seat (holder (roll h) slot) holds

  freed_now : holder (roll k) slot ≡ None
  freed_now =
      holder_now h k seat item r slot
      ∙ if_here slot (freed seat (holder (roll h) slot)) (holder (roll h) slot)
      ∙ ap (freed seat) its
      ∙ ap (λ (b : Bool). cond b None (Some seat)) (eq-eqb seat seat refl)

  stands : SlotsStand k more
  stands = stand_rolled h k seat item r more stand (law (roll h) subs more seat slot t.stands.held its others gone)

  own_ended : KeepsSeat k more seat (log ++ Dropped (now h) (length (roll h)) slot ∷ [])
  own_ended = record {
    stands = stands;
    each = λ s. subst (λ (o : Option Living). KeepsSlot k o (own_slot k seat more s)) (sym (living_more log (Dropped (now h) (length (roll h)) slot) s)) (step s);
  }
    where
      step : (s : ℕ) → KeepsSlot k (cond (eqb slot s) None (living log s)) (own_slot k seat more s)
      step = at_each (λ s. KeepsSlot k (cond (eqb slot s) None (living log s)) (own_slot k seat more s)) slot
          (subst (λ (o : Option Living). KeepsSlot k o (own_slot k seat more slot)) (sym (if_here slot None (living log slot)))
          (subst (KeepsSlot k None) (sym (ap (λ (o : Option ℕ). only (is_holder seat o) (slot_in more slot)) freed_now)) tt))
          (λ s e. subst (λ (o : Option Living). KeepsSlot k o (own_slot k seat more s)) (sym (if_else slot s None (living log s) e))
          (slot_else h k seat item r subs more slot others aside seat log t s e))

  others_ended : (other : ℕ) (theirs : List Mark) → other ≢ seat → KeepsSeat h subs other theirs → KeepsSeat k more other theirs
  others_ended other theirs ne o = seat_rolled h k seat item r subs more slot others aside stands other theirs o
      (not_of_another seat other (holder (roll h) slot) ne holds)
      (ap (is_holder other) freed_now)

  pub ended_all : KeepsAll h k subs more seat log (Dropped (now h) (length (roll h)) slot ∷ []) × IsTrueDropped k seat log (now h) (length (roll h)) slot
  ended_all = (
    record { own = own_ended; others = others_ended },
    record {
      within = omega (arith, within k, now_same h k seat item r);
      ended = item_there h k seat item r;
      subscribed = l;
      there = there;
      later = up_to h l (slot_in subs slot) (kept_in h subs seat log t slot l there);
    },
  )

pub ends_all : EndsFollow → (site : SiteData) (subs more : Subs) (slot : ℕ) → slot_in more slot ≡ None → OtherSlotsStay subs slot more → Stand (may_be_watched site) (channel_view site) more → Ends site subs slot more
ends_all law site subs more slot gone others stand h k seat log is r t living_is =
    let found = some_of (living log slot) living_is in
    ended_all law subs more slot gone others h k seat r (subst (λ (z : SiteData). Stand (may_be_watched z) (channel_view z) more) (sym is) stand) log t found.0 found.1
