-- What one item of the roll makes of the slots of all seats.
use Rattle.std.specs.Prelude.{◌≡◌, ℕ, Bool, false, List, [], ◌∷◌, ◌++◌, length, Option, None, Some, slice_get, refl}
use Rattle.std.proofs.Common.{take, sym, ◌∙◌, ap, subst, eqb}
use Rattle.std.proofs.Math.Seq.{take-append_seam}
use Rattle.histories.proofs.Prefixes.{at_end}
use Rattle.mon_shown.specs.Rolls.{holder_with, holder_after, holder, Follows}
use Rattle.mon_shown.specs.Slots.{slot_in, Stand, OtherSlotsStay}
use Rattle.mon_shown.specs.declared.watching.Watching.{Watching}
use Rattle.desk_api.specs.History.{History, Item, roll}
use Rattle.desk_api.specs.Living.{Living, living}
use Rattle.desk_api.specs.Triggers.{channel_view, may_be_watched}
use Rattle.desk_api.specs.declared.channel.Channel.{Channel}
use Rattle.desk_api.specs.declared.history.Base.{Base}
use Rattle.desk_api.specs.declared.mark.Mark.{Mark}
use Rattle.desk_hub.specs.Seats.{Subs, now, only, is_holder, has_slot, own_slot, KeepsSlot, SlotsStand, KeepsSeat}
use Rattle.desk_hub.specs.Steps.{Rolls}
use Rattle.desk_hub.proofs.Logs.{at_each, apart}
use Rattle.desk_hub.proofs.Living.{living_rolled}

holder_append : (slot : ℕ) (xs ys : List (ℕ × Item)) (o : Option ℕ) → holder_after slot o (xs ++ ys) ≡ holder_after slot (holder_after slot o xs) ys
holder_append slot [] ys o = refl
holder_append slot (x ∷ xs) ys o = holder_append slot xs ys (holder_with slot o x)

module _ (h k : History) (seat : ℕ) (item : Item) (r : Rolls h k seat item) where
  pub base_same : k.base ≡ h.base
  base_same = r.goes_on.base

  pub now_same : now k ≡ now h
  now_same = ap length r.commits_are

  -- where the item stands, and what was before it
  pub item_there : slice_get (roll k) (length (roll h)) ≡ Some (seat, item)
  item_there = ap (λ (items : List (ℕ × Item)). slice_get items (length (roll h))) r.roll_is ∙ at_end (roll h) (seat, item)

  pub before_item : take (length (roll h)) (roll k) ≡ roll h
  before_item = ap (take (length (roll h))) r.roll_is ∙ take-append_seam (roll h) ((seat, item) ∷ [])

  pub holder_now : (slot : ℕ) → holder (roll k) slot ≡ holder_with slot (holder (roll h) slot) (seat, item)
  holder_now slot = ap (λ (items : List (ℕ × Item)). holder items slot) r.roll_is ∙ holder_append slot (roll h) ((seat, item) ∷ []) None

  slot_rolled : (o : Option Living) (x : Option (Watching Channel)) → KeepsSlot h o x → KeepsSlot k o x
  slot_rolled None None t = tt
  slot_rolled None (Some x) t = absurd t
  slot_rolled (Some l) None t = absurd t
  slot_rolled (Some l) (Some x) t = living_rolled h k base_same r.commits_are l x t

  pub stand_rolled : (more : Subs) → Stand (may_be_watched h.base.site) (channel_view h.base.site) more → Follows (roll h ++ (seat, item) ∷ []) more → SlotsStand k more
  stand_rolled more stand follows = record {
    stand = subst (λ (b : Base). Stand (may_be_watched b.site) (channel_view b.site) more) (sym base_same) stand;
    held = subst (λ (items : List (ℕ × Item)). Follows items more) (sym r.roll_is) follows;
  }

  module _ (subs more : Subs) (slot : ℕ) (others : OtherSlotsStay subs slot more) (aside : (s : ℕ) (o : Option ℕ) → eqb slot s ≡ false → holder_with s o (seat, item) ≡ o) where
    -- the other slots, of any seat
    pub slot_else : (of : ℕ) (log : List Mark) → KeepsSeat h subs of log → (s : ℕ) → eqb slot s ≡ false → KeepsSlot k (living log s) (own_slot k of more s)
    slot_else of log t s e =
        subst (λ (o : Option ℕ). KeepsSlot k (living log s) (only (is_holder of o) (slot_in more s))) (sym (holder_now s ∙ aside s (holder (roll h) s) e))
        (subst (λ (x : Option (Watching Channel)). KeepsSlot k (living log s) (only (has_slot h of s) x)) (sym (others s (apart slot s e)))
        (slot_rolled (living log s) (own_slot h of subs s) (t.each s)))

    -- the slot, of a seat that has it neither before nor after
    slot_none : (of : ℕ) (log : List Mark) → KeepsSeat h subs of log → has_slot h of slot ≡ false → has_slot k of slot ≡ false → KeepsSlot k (living log slot) (own_slot k of more slot)
    slot_none of log t was is =
        subst (KeepsSlot k (living log slot)) (sym (ap (λ (b : Bool). only b (slot_in more slot)) is))
        (slot_rolled (living log slot) None (subst (KeepsSlot h (living log slot)) (ap (λ (b : Bool). only b (slot_in subs slot)) was) (t.each slot)))

    pub seat_rolled : SlotsStand k more → (of : ℕ) (log : List Mark) → KeepsSeat h subs of log → has_slot h of slot ≡ false → has_slot k of slot ≡ false → KeepsSeat k more of log
    seat_rolled stands of log t was is = record {
      stands = stands;
      each = at_each (λ s. KeepsSlot k (living log s) (own_slot k of more s)) slot (slot_none of log t was is) (slot_else of log t);
    }
