-- What a seat's log tells of its slots.
use Rattle.std.specs.Prelude.{◌≡◌, ◌≢◌, ℕ, Bool, true, false, cond, List, [], ◌∷◌, ◌++◌, Option, None, Some, is_some, refl}
use Rattle.std.proofs.Common.{sym, ◌∙◌, ap, subst, eqb}
use Rattle.std.proofs.lemmas.Bool.{eqb-true, eq-eqb, ne_eqb, false≢true, true≢false}
use Rattle.mon_shown.specs.Rolls.{holder}
use Rattle.mon_shown.specs.Slots.{slot_in, Stand}
use Rattle.mon_shown.specs.declared.watching.Watching.{Watching}
use Rattle.desk_api.specs.History.{History, Item, roll}
use Rattle.desk_api.specs.Living.{Living, living, living_with, living_after, lives}
use Rattle.desk_api.specs.Triggers.{channel_view, may_be_watched}
use Rattle.desk_api.specs.Types.{type_of}
use Rattle.desk_api.specs.declared.channel.Channel.{Channel}
use Rattle.desk_api.specs.declared.mark.Mark.{Mark}
use Rattle.desk_hub.specs.Seats.{Subs, only, is_holder, has_slot, own_slot, KeepsSlot, KeepsSeat, IsAside, IsTyped}

-- slots, one and each other

pub at_each : (P : ℕ → Type 0) (slot : ℕ) → P slot → ((s : ℕ) → eqb slot s ≡ false → P s) → (s : ℕ) → P s
at_each P slot here else s = step (eqb slot s) refl
  where
    step : (b : Bool) → eqb slot s ≡ b → P s
    step true e = subst P (eqb-true slot s e) here
    step false e = else s e

pub apart : (slot s : ℕ) → eqb slot s ≡ false → s ≡ slot → ⊥
apart slot s e z = false≢true (sym e ∙ eq-eqb slot s (sym z))

pub if_here : {X : Type 0} (slot : ℕ) (x y : X) → cond (eqb slot slot) x y ≡ x
if_here {X} slot x y = ap (λ (b : Bool). cond b x y) (eq-eqb slot slot refl)

pub if_else : {X : Type 0} (slot s : ℕ) (x y : X) → eqb slot s ≡ false → cond (eqb slot s) x y ≡ y
if_else {X} slot s x y e = ap (λ (b : Bool). cond b x y) e

pub same_some : {X : Type 0} {x y : X} {o : Option X} → o ≡ Some x → o ≡ Some y → x ≡ y
same_some {X} {x} {y} {o} p q = let e : Some x ≡ Some y = sym p ∙ q in let same : x ≡ y = cc in same

pub no_some : {X : Type 0} {x : X} {o : Option X} → o ≡ None → o ≡ Some x → ⊥
no_some {X} {x} {o} p q = true≢false (ap is_some (sym q) ∙ ap is_some p)

pub some_of : {X : Type 0} (o : Option X) → is_some o ≡ true → (x : X) × (o ≡ Some x)
some_of None e = absurd (false≢true e)
some_of (Some x) e = (x, refl)

-- one more mark

living_append : (slot : ℕ) (xs ys : List Mark) (o : Option Living) → living_after slot o (xs ++ ys) ≡ living_after slot (living_after slot o xs) ys
living_append slot [] ys o = refl
living_append slot (x ∷ xs) ys o = living_append slot xs ys (living_with slot o x)

pub living_more : (log : List Mark) (mark : Mark) (slot : ℕ) → living (log ++ mark ∷ []) slot ≡ living_with slot (living log slot) mark
living_more log mark slot = living_append slot log (mark ∷ []) None

-- whose a slot is

pub free_of : (seat : ℕ) (o : Option ℕ) → is_some o ≡ false → is_holder seat o ≡ false
free_of seat None e = refl
free_of seat (Some k) e = absurd (true≢false e)

pub not_of_another : (seat other : ℕ) (o : Option ℕ) → other ≢ seat → is_holder seat o ≡ true → is_holder other o ≡ false
not_of_another seat other None ne e = refl
not_of_another seat other (Some k) ne e = ne_eqb k other (λ z. ne (sym z ∙ eqb-true k seat e))

pub its_holder : (seat : ℕ) (o : Option ℕ) → is_holder seat o ≡ true → o ≡ Some seat
its_holder seat None e = absurd (false≢true e)
its_holder seat (Some k) e = ap Some (eqb-true k seat e)

only_some : (seat : ℕ) (o : Option ℕ) (x : Option (Watching Channel)) → is_some x ≡ is_some o → is_some (only (is_holder seat o) x) ≡ is_holder seat o
only_some seat None x e = refl
only_some seat (Some k) x e = elim (eqb k seat) as (λ (b : Bool). is_some (only b x) ≡ b) [ true ↦ e | false ↦ refl ]

kept_some : (h : History) (o : Option Living) (x : Option (Watching Channel)) → KeepsSlot h o x → is_some o ≡ is_some x
kept_some h None None k = refl
kept_some h None (Some x) k = absurd k
kept_some h (Some l) None k = absurd k
kept_some h (Some l) (Some x) k = refl

module _ (h : History) (subs : Subs) (seat : ℕ) (log : List Mark) (k : KeepsSeat h subs seat log) where
  pub lives_where_held : (slot : ℕ) → lives log slot ≡ has_slot h seat slot
  lives_where_held slot =
      kept_some h (living log slot) (own_slot h seat subs slot) (k.each slot)
      ∙ only_some seat (holder (roll h) slot) (slot_in subs slot) (k.stands.held slot)

  pub own_is : (more : Subs) (slot : ℕ) → lives log slot ≡ true → own_slot h seat more slot ≡ slot_in more slot
  own_is more slot l = ap (λ (b : Bool). only b (slot_in more slot)) (sym (lives_where_held slot) ∙ l)

  pub kept_in : (slot : ℕ) (l : Living) → living log slot ≡ Some l → KeepsSlot h (Some l) (slot_in subs slot)
  kept_in slot l there =
      subst (KeepsSlot h (Some l)) (own_is subs slot (ap is_some there))
      (subst (λ (o : Option Living). KeepsSlot h o (own_slot h seat subs slot)) there (k.each slot))

  pub typed : (slot : ℕ) (l : Living) → living log slot ≡ Some l → IsTyped (type_of h.base.site l.channel) (slot_in subs slot)
  typed slot l there = step (slot_in subs slot) (kept_in slot l there)
    where
      step : (o : Option (Watching Channel)) → KeepsSlot h (Some l) o → IsTyped (type_of h.base.site l.channel) o
      step None t = absurd t
      step (Some x) t = t.keeps.ty_is

  pub marked : (mark : Mark) → IsAside mark → KeepsSeat h subs seat (log ++ mark ∷ [])
  marked mark aside = record {
    stands = k.stands;
    each = λ slot. subst (λ (o : Option Living). KeepsSlot h o (own_slot h seat subs slot)) (sym (living_more log mark slot ∙ aside slot (living log slot))) (k.each slot);
  }

-- a new desk
pub new_desk : (h : History) (subs : Subs) (seat : ℕ) → roll h ≡ [] → Stand (may_be_watched h.base.site) (channel_view h.base.site) subs → ((slot : ℕ) → slot_in subs slot ≡ None) → KeepsSeat h subs seat []
new_desk h subs seat none stand empty = record {
  stands = record {
    stand = stand;
    held = λ slot. ap is_some (empty slot) ∙ sym (ap (λ (items : List (ℕ × Item)). is_some (holder items slot)) none);
  };
  each = λ slot. subst (KeepsSlot h None) (sym (ap (λ (items : List (ℕ × Item)). only (is_holder seat (holder items slot)) (slot_in subs slot)) none)) tt;
}
