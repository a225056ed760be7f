-- Numbers in rising order: up to the least that is missing each stands at its own place, and from there on each is greater.
use Rattle.std.specs.Prelude.{◌≡◌, ◌≢◌, ℕ, suc, zero, ◌+◌, ◌-◌, ◌<◌, ◌≤◌, true, false, cond, T, List, [], ◌∷◌, length, None, Some, is_some, IsSome, slice_index_or, refl}
use Rattle.std.proofs.Common.{sym, ap, subst, ◌∙◌, inl, inr, arith}
use Rattle.std.proofs.lemmas.Bool.{cases_lt}
use Rattle.std.specs.declared.cmp.Ordering.TheVariants.{Less, Equal, Greater}
use Rattle.std.specs.Ordering.{nat_cmp, is_eq}
use Rattle.std.specs.FinMap.{find, is_sorted}
use Rattle.std.proofs.lemmas.Cmp.{nat_cmp_total, ranked}
use Rattle.std.proofs.lemmas.List.{get_or_default}
use Rattle.chan_table.specs.Numbers.{IsLeastAbsent}
use Rattle.chan_table.proofs.Places.{key_rises, find-at}

unequal : (q k : ℕ) → q ≢ k → is_eq (nat_cmp q k) ≡ false
unequal q k ne =
    elim (nat_cmp q k) as (λ r. r ≡ nat_cmp q k → is_eq r ≡ false) [
      | Less ↦ λ _. refl
      | Equal ↦ λ e. absurd (ne (ranked q k Equal e))
      | Greater ↦ λ _. refl
    ] refl

module _ {V : Type 0} where
  -- n places further on, a number is greater by n at least
  rises_by : (es : List (ℕ × V)) (i j n : ℕ) (d : ℕ × V) → T (is_sorted nat_cmp es) → j ≡ i + n → j < length es → (slice_index_or es i d).0 + n ≤ (slice_index_or es j d).0
  rises_by es i j zero d h e in_ =
      let same : i ≡ j = omega arith in
      let key : (slice_index_or es i d).0 ≡ (slice_index_or es j d).0 = ap (λ k. (slice_index_or es k d).0) same in
      omega arith
  rises_by es i j (suc n) d h e in_ =
      let before : (slice_index_or es i d).0 + n ≤ (slice_index_or es (i + n) d).0 = rises_by es i (i + n) n d h refl (omega arith) in
      let under : i + n < j = omega arith in
      let last : (slice_index_or es (i + n) d).0 < (slice_index_or es j d).0 =
      ranked _ _ Less (sym (key_rises nat_cmp nat_cmp_total es (i + n) j d h under in_)) in
      omega arith

  -- no number is below its place
  at_least : (es : List (ℕ × V)) (i : ℕ) (d : ℕ × V) → T (is_sorted nat_cmp es) → i < length es → i ≤ (slice_index_or es i d).0
  at_least es i d h in_ = let r = rises_by es 0 i i d h (omega arith) in_ in omega arith

  -- where a number is its place, so are all before it
  pub same_to : (es : List (ℕ × V)) (m : ℕ) (e : ℕ × V) → is_sorted nat_cmp es ≡ true → m < length es → e ≡ slice_index_or es m e → e.0 ≡ m → (i : ℕ) (d : ℕ × V) → i < m + 1 → (slice_index_or es i d).0 ≡ i
  same_to es m e s in_ is here i d lt =
      let h = subst T (sym s) tt in
      let at : (slice_index_or es m d).0 ≡ m = ap (λ x. x.0) (get_or_default es m d e in_ ∙ sym is) ∙ here in
      let low = at_least es i d h (omega arith) in
      let high = rises_by es i m (m - i) d h (omega arith) in_ in
      omega arith

  -- where a number is greater than its place, so are all behind it
  pub above_from : (es : List (ℕ × V)) (m : ℕ) (e : ℕ × V) → is_sorted nat_cmp es ≡ true → m < length es → e ≡ slice_index_or es m e → e.0 ≢ m → (i : ℕ) (d : ℕ × V) → m ≤ i → i < length es → i < (slice_index_or es i d).0
  above_from es m e s in_ is other i d le in' =
      let h = subst T (sym s) tt in
      let at : (slice_index_or es m d).0 ≡ e.0 = ap (λ x. x.0) (get_or_default es m d e in_ ∙ sym is) in
      let low = at_least es m d h in_ in
      let high = rises_by es m i (i - m) d h (omega arith) in' in
      omega arith

  -- a number that stands at no place isn't found
  find-nowhere : (es : List (ℕ × V)) (q : ℕ) → ((i : ℕ) (d : ℕ × V) → i < length es → (slice_index_or es i d).0 ≢ q) → find nat_cmp q es ≡ None
  find-nowhere [] q h = refl
  find-nowhere (e ∷ es) q h =
      ap (λ b. cond b (Some e.1) (find nat_cmp q es)) (unequal q e.0 (λ is. h 0 e (omega arith) (sym is)))
      ∙ find-nowhere es q (λ i d in_. h (suc i) d (omega arith))

  pub least_absent : (es : List (ℕ × V)) (n : ℕ) → is_sorted nat_cmp es ≡ true → n ≤ length es
      → ((i : ℕ) (d : ℕ × V) → i < n → (slice_index_or es i d).0 ≡ i)
      → ((i : ℕ) (d : ℕ × V) → n ≤ i → i < length es → i < (slice_index_or es i d).0)
      → IsLeastAbsent (λ q. find nat_cmp q es) n
  least_absent [] n s le same above = record { absent = refl; below = λ k lt. absurd (omega arith) }
  least_absent (e ∷ es) n s le same above = record {
    absent = find-nowhere (e ∷ es) n (λ i d in_ is. apart i d in_ is);
    below = λ k lt.
        let found = find-at nat_cmp nat_cmp_total (e ∷ es) k e (subst T (sym s) tt) (omega arith) in
        subst (λ q. IsSome (find nat_cmp q (e ∷ es))) (same k e lt) (ap is_some found);
  }
    where
      apart : (i : ℕ) (d : ℕ × V) → i < length (e ∷ es) → (slice_index_or (e ∷ es) i d).0 ≡ n → ⊥
      apart i d in_ is = elim (cases_lt i n) [ inl lt ↦ absurd (omega (arith, same i d lt)) | inr ge ↦ absurd (omega (arith, above i d ge in_)) ]
