-- The least free slot is a function of the roll, and it is below 1,024 while fewer subscriptions live.
use Rattle.std.specs.Prelude.{◌≡◌, ℕ, zero, suc, ◌+◌, ◌≤◌, ◌<◌, Bool, true, false, cond, List, [], ◌∷◌, ◌++◌, Option, None, Some, is_some, refl}
use Rattle.std.proofs.Common.{sym, ◌∙◌, ap, arith, eqb, inl, inr}
use Rattle.std.proofs.lemmas.Bool.{false≢true, cases_lt, eqb-true, eq-eqb}
use Rattle.std.specs.Ordering.{nat_cmp}
use Rattle.std.specs.FinSet.{FinSet}
use Rattle.mon_shown.specs.Rolls.{freed, holder_with, holder_after, holder, is_held, held_below, alive, IsLeastFree, Follows}
use Rattle.mon_shown.specs.Slots.{slot_in, is_filled, OtherSlotsStay, IsFirstFree, IsFull}
use Rattle.mon_shown.specs.declared.subscriptions.Subscriptions.{Subscriptions}
use Rattle.mon_shown.specs.declared.roll.RollItem.{RollItem}
use Rattle.mon_shown.specs.declared.roll.RollItem.TheVariants.{Begins, Ends}

-- The same roll has one least free slot.
pub one_least : {C : Type 0} → (items : List (ℕ × RollItem C)) (a b : ℕ) → IsLeastFree items a → IsLeastFree items b → a ≡ b
one_least items a b p q =
    elim (cases_lt a b) [
      | inl lt ↦ absurd (false≢true (sym p.free ∙ q.below a lt))
      | inr le ↦ elim (cases_lt b a) [
        | inl lt ↦ absurd (false≢true (sym q.free ∙ p.below b lt))
        | inr more ↦ omega (arith, le, more)
      ]
    ]

-- where all of these slots are held, so many are
pub all_held : {C : Type 0} → (n : ℕ) (items : List (ℕ × RollItem C)) → ((k : ℕ) → k < n → is_held items k ≡ true) → held_below n items ≡ n
all_held zero items h = refl
all_held (suc n) items h =
    let here = h n (omega arith) in
    let before = all_held n items (λ k lt. h k (omega (arith, lt))) in
    ap (λ (b : Bool). cond b (held_below n items + 1) (held_below n items)) here ∙ omega (arith, before)

pub no_more : {C : Type 0} → (n : ℕ) (items : List (ℕ × RollItem C)) → held_below n items ≤ n
no_more zero items = omega arith
no_more (suc n) items = step (is_held items n) (no_more n items)
  where
    step : (b : Bool) → held_below n items ≤ n → cond b (held_below n items + 1) (held_below n items) ≤ suc n
    step true le = omega (arith, le)
    step false le = omega (arith, le)

-- a slot that nobody holds isn't counted
pub fewer : {C : Type 0} → (n : ℕ) (items : List (ℕ × RollItem C)) (slot : ℕ) → slot < n → is_held items slot ≡ false → held_below n items < n
fewer zero items slot lt free = absurd (omega (arith, lt))
fewer (suc n) items slot lt free = step (is_held items n) refl (λ less. fewer n items slot less free)
  where
    step : (b : Bool) → is_held items n ≡ b → (slot < n → held_below n items < n) → cond b (held_below n items + 1) (held_below n items) < suc n
    step false e f = omega (arith, no_more n items)
    step true e f =
        elim (cases_lt slot n) [
          | inl less ↦ omega (arith, f less)
          | inr le ↦ absurd (false≢true (sym free ∙ (let same : slot ≡ n = omega (arith, le, lt) in ap (is_held items) same) ∙ e))
        ]

held_apart : {C : Type 0} → (n m : ℕ) (items : List (ℕ × RollItem C)) → n ≤ m → ((k : ℕ) → k < n → is_held items k ≡ true) → n ≤ held_below m items
held_apart n zero items le h = omega (arith, le)
held_apart n (suc m) items le h =
    elim (cases_lt m n) [
      | inl lt ↦ (let same : n ≡ suc m = omega (arith, le, lt) in omega (arith, same, all_held (suc m) items (λ k less. h k (omega (arith, less, same)))))
      | inr more ↦ step (is_held items m) (held_apart n m items more h)
    ]
  where
    step : (b : Bool) → n ≤ held_below m items → n ≤ cond b (held_below m items + 1) (held_below m items)
    step true x = omega (arith, x)
    step false x = omega (arith, x)

-- fewer than 1,024 are alive just where the least free slot is below 1,024
pub below_limit : {C : Type 0} → (items : List (ℕ × RollItem C)) (slot : ℕ) → IsLeastFree items slot → alive items < 1024 → slot < 1024
unfolding alive
below_limit items slot p few =
    elim (cases_lt slot 1024) [
      | inl lt ↦ lt
      | inr le ↦ absurd (omega (arith, few, held_apart 1024 1024 items (omega arith) (λ k lt. p.below k (omega (arith, lt, le)))))
    ]

pub all_alive : {C : Type 0} → (items : List (ℕ × RollItem C)) → ((k : ℕ) → k < 1024 → is_held items k ≡ true) → alive items ≡ 1024
unfolding alive
all_alive items held = all_held 1024 items held

pub few_alive : {C : Type 0} → (items : List (ℕ × RollItem C)) (slot : ℕ) → slot < 1024 → is_held items slot ≡ false → alive items < 1024
unfolding alive
few_alive items slot lt free = fewer 1024 items slot lt free

-- no more than 1,024 live
pub at_most : {C : Type 0} → (items : List (ℕ × RollItem C)) → alive items ≤ 1024
unfolding alive
at_most items = no_more 1024 items

holder_append : {C : Type 0} → (slot : ℕ) (xs ys : List (ℕ × RollItem C)) (o : Option ℕ) → holder_after slot o (xs ++ ys) ≡ holder_after slot (holder_after slot o xs) ys
holder_append slot [] ys o = refl
holder_append slot (x ∷ xs) ys o = holder_append slot xs ys (holder_with slot o x)

-- a beginning holds its slot, and no other
pub held_begun : {C : Type 0} → (items : List (ℕ × RollItem C)) (seat slot size s : ℕ) (channel : C) (mask : FinSet nat_cmp)
    → is_held (items ++ (seat, Begins slot channel mask size) ∷ []) s ≡ cond (eqb slot s) true (is_held items s)
held_begun items seat slot size s channel mask = ap is_some (holder_append s items ((seat, Begins slot channel mask size) ∷ []) None) ∙ step (eqb slot s)
  where
    step : (c : Bool) → is_some (cond c (Some seat) (holder items s)) ≡ cond c true (is_held items s)
    step true = refl
    step false = refl

-- an ending by the seat that has the slot frees it, and no other
pub held_ended : {C : Type 0} → (items : List (ℕ × RollItem C)) (seat slot s : ℕ) → holder items slot ≡ Some seat
    → is_held (items ++ (seat, Ends slot) ∷ []) s ≡ cond (eqb slot s) false (is_held items s)
held_ended items seat slot s has = ap is_some (holder_append s items ((seat, Ends slot) ∷ []) None) ∙ step (eqb slot s) refl
  where
    frees : (k : ℕ) → is_some (freed k (Some k)) ≡ false
    frees k = ap (λ (b : Bool). is_some (cond b None (Some k))) (eq-eqb k k refl)

    step : (c : Bool) → eqb slot s ≡ c → is_some (cond c (freed seat (holder items s)) (holder items s)) ≡ cond c false (is_held items s)
    step true e = ap (λ (o : Option ℕ). is_some (freed seat o)) (ap (holder items) (sym (eqb-true slot s e)) ∙ has) ∙ frees seat
    step false e = refl

-- slots that follow the roll

module _ {C : Type 0} (items : List (ℕ × RollItem C)) (subs : Subscriptions C) (f : Follows items subs) where
  pub least_by : (slot : ℕ) → IsFirstFree subs slot → IsLeastFree items slot
  least_by slot first = record { free = sym (f slot) ∙ first.free; below = λ k less. sym (f k) ∙ first.below k less }

  pub full_by : IsFull subs → alive items ≡ 1024
  full_by full = all_alive items (λ k less. sym (f k) ∙ full k less)

  module _ (more : Subscriptions C) (seat slot : ℕ) (others : OtherSlotsStay subs slot more) where
    same_else : (s : ℕ) → eqb slot s ≡ false → is_filled more s ≡ is_held items s
    same_else s e = ap is_some (others s (λ z. false≢true (sym e ∙ eq-eqb slot s (sym z)))) ∙ f s

    pub follows_begun : (size : ℕ) (channel : C) (mask : FinSet nat_cmp) → is_filled more slot ≡ true → Follows (items ++ (seat, Begins slot channel mask size) ∷ []) more
    follows_begun size channel mask there s = step (eqb slot s) refl ∙ sym (held_begun items seat slot size s channel mask)
      where
        step : (b : Bool) → eqb slot s ≡ b → is_filled more s ≡ cond b true (is_held items s)
        step true e = ap (is_filled more) (sym (eqb-true slot s e)) ∙ there
        step false e = same_else s e

    pub follows_ended : holder items slot ≡ Some seat → slot_in more slot ≡ None → Follows (items ++ (seat, Ends slot) ∷ []) more
    follows_ended has there s = step (eqb slot s) refl ∙ sym (held_ended items seat slot s has)
      where
        step : (b : Bool) → eqb slot s ≡ b → is_filled more s ≡ cond b false (is_held items s)
        step true e = ap (is_filled more) (sym (eqb-true slot s e)) ∙ ap is_some there
        step false e = same_else s e
