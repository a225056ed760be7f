-- Bits in bytes.
use Rattle.std.proofs.Common.{◌≡◌, ℕ, zero, suc, ◌+◌, ◌-◌, ◌*◌, ◌/◌, ◌%◌, ◌^◌, ◌<◌, ◌≤◌, Bool, true, false, not, cond, ◌&&◌, ◌||◌, ◌⊎◌, ltb, eqb, List, [], ◌∷◌, length, get_or, drop, nat_cmp, eq-eqb, refl, sym, ap, ◌∙◌, arith, inl, inr}
use Rattle.std.proofs.lemmas.Bool.{cases_lt, lt-ltb, le-ltb, true≢false}
use Rattle.std.proofs.lemmas.List.{get_or_past, get_or-drop, drop_all}
use Rattle.std.proofs.lemmas.Nat.Bits.{bit_at-zero, bit_at-lt, bit_at_above, same_from_bits_below, bit_at_cat_low, bit_at_cat_high}
use Rattle.std.proofs.Math.Nat.{pow-suc}
use Rattle.std.specs.Int.{bit_at}
use Rattle.std.specs.List.{list_any}
use Rattle.std.specs.FinSet as fin
use Rattle.std.specs.FinSet.{FinSet}
use Rattle.pva_wire.specs.declared.order.Order.{Order}
use Rattle.pva_wire.specs.declared.order.Order.TheVariants.{Little, Big}
use Rattle.pva_wire.specs.Spelling.{IsBytes}
use Rattle.pva_wire.specs.Bits.{place, byte_bit, low_bits, byte_of, covering, width, is_high, bits_of}
use Rattle.pvd_type.specs.Sets.{bit}
use Rattle.pvd_type.proofs.Sets.{same, in_set_of, bit_of_none, no_bit, differs}

-- places
pub place_place : (o : Order) (n p : ℕ) → place o n (place o n p) ≡ p
place_place Little n p = refl
place_place Big n p =
    elim (cases_lt p (n / 8 * 8)) [
      | inl lt ↦
          let there : p / 8 * 8 + (7 - p % 8) < n / 8 * 8 = omega arith in
          let back : (p / 8 * 8 + (7 - p % 8)) / 8 * 8 + (7 - (p / 8 * 8 + (7 - p % 8)) % 8) ≡ p = omega arith in
          rw (lt-ltb p (n / 8 * 8) lt, lt-ltb (p / 8 * 8 + (7 - p % 8)) (n / 8 * 8) there) back
      | inr le ↦ rw (le-ltb p (n / 8 * 8) le, le-ltb p (n / 8 * 8) le) refl
    ]

pub place_high : (o : Order) (n p : ℕ) → 8192 ≤ p → 8192 ≤ place o n p
place_high Little n p h = h
place_high Big n p h =
    elim (cases_lt p (n / 8 * 8)) [
      | inl lt ↦ rw (lt-ltb p (n / 8 * 8) lt) (omega arith)
      | inr le ↦ rw (le-ltb p (n / 8 * 8) le) h
    ]

pub place_within : (o : Order) (n p : ℕ) → p < n → place o n p < n
place_within Little n p h = h
place_within Big n p h =
    elim (cases_lt p (n / 8 * 8)) [
      | inl lt ↦ rw (lt-ltb p (n / 8 * 8) lt) (omega arith)
      | inr le ↦ rw (le-ltb p (n / 8 * 8) le) h
    ]

pub place_past : (o : Order) (n p : ℕ) → n ≤ p → place o n p ≡ p
place_past Little n p h = refl
place_past Big n p h = rw (le-ltb p (n / 8 * 8) (omega arith)) refl

-- bytes that are too high
abbrev full : ℕ → Bool
full b = not (eqb b 0)

full_more : (b : ℕ) → full (suc b) ≡ true
full_more b = ap not (differs (suc b) 0 (λ e. omega (arith, e)))

full_none : (b : ℕ) → full b ≡ false → b ≡ 0
full_none zero e = refl
full_none (suc b) e = absurd (true≢false (sym (full_more b) ∙ e))

or_none : (a b : Bool) → (a || b) ≡ false → (a ≡ false) × (b ≡ false)
or_none true b e = absurd (true≢false e)
or_none false b e = (refl, e)

zero_at : (xs : List ℕ) (j : ℕ) → list_any full xs ≡ false → get_or xs j 0 ≡ 0
zero_at [] j e = refl
zero_at (x ∷ xs) zero e = full_none x (or_none (full x) (list_any full xs) e).0
zero_at (x ∷ xs) (suc j) e = zero_at xs j (or_none (full x) (list_any full xs) e).1

all_zeros : (xs : List ℕ) → ((j : ℕ) → get_or xs j 0 ≡ 0) → list_any full xs ≡ false
all_zeros [] h = refl
all_zeros (x ∷ xs) h = rw (h 0) (all_zeros xs (λ j. h (suc j)))

pub is_high_is : (body : List ℕ) → is_high body ≡ list_any full (drop 8192 body)
unfolding is_high
is_high_is body = refl

pub not_high : (body : List ℕ) → length body ≤ 8192 → is_high body ≡ false
unfolding is_high
not_high body h = ap (list_any full) (drop_all 8192 body h)

pub high_none : (o : Order) (body : List ℕ) → is_high body ≡ false → (q : ℕ) → 65536 ≤ q → byte_bit o body q ≡ false
high_none o body low q h =
    let p : ℕ = place o (length body) (q / 8) in
    let far : 8192 ≤ p = place_high o (length body) (q / 8) (omega arith) in
    let at : 8192 + (p - 8192) ≡ p = omega arith in
    let zero_there : get_or body p 0 ≡ 0 = ap (λ i. get_or body i 0) (sym at) ∙ sym (get_or-drop 8192 body (p - 8192) 0) ∙ zero_at (drop 8192 body) (p - 8192) (sym (is_high_is body) ∙ low) in
    ap (λ b. bit b (q % 8)) zero_there ∙ bit_of_none (q % 8)

pub high_all : (o : Order) (body : List ℕ) → IsBytes body → ((q : ℕ) → 65536 ≤ q → byte_bit o body q ≡ false) → is_high body ≡ false
high_all o body bytes none = is_high_is body ∙ all_zeros (drop 8192 body) (λ j. get_or-drop 8192 body j 0 ∙ each (8192 + j) (omega arith))
  where
    each : (j : ℕ) → 8192 ≤ j → get_or body j 0 ≡ 0
    each j far =
        same_from_bits_below 8 (get_or body j 0) 0 (bytes j) (omega arith) (λ k h.
        let p : ℕ = place o (length body) j in
        let high : 8192 ≤ p = place_high o (length body) j far in
        let a : (8 * p + k) / 8 ≡ p = omega arith in
        let b : (8 * p + k) % 8 ≡ k = omega arith in
        let e : byte_bit o body (8 * p + k) ≡ bit (get_or body j 0) k = rw (a, b) (ap (λ i. bit (get_or body i 0) k) (place_place o (length body) j)) in
        no_bit (get_or body j 0) k (sym e ∙ none (8 * p + k) (omega arith)) ∙ sym (bit_at-zero k))

-- one byte more
or_false : (b : Bool) → (b || false) ≡ b
or_false true = refl
or_false false = refl

pub one_byte : (o : Order) (body : List ℕ) (p q : ℕ)
    → ((ltb q (8 * p) && byte_bit o body q) || (eqb (q / 8) p && bit (get_or body (place o (length body) p) 0) (q % 8))) ≡ (ltb q (8 * (p + 1)) && byte_bit o body q)
one_byte o body p q =
    elim (cases_lt q (8 * p)) [
      | inl lt ↦ rw (lt-ltb q (8 * p) lt, differs (q / 8) p (λ e. omega (arith, e)), lt-ltb q (8 * (p + 1)) (omega arith)) (or_false (byte_bit o body q))
      | inr le ↦ elim (cases_lt q (8 * (p + 1))) [
        | inl lt ↦
            let a : q / 8 ≡ p = omega arith in
            let b : eqb p p ≡ true = eq-eqb p p refl in
            rw (le-ltb q (8 * p) le, lt-ltb q (8 * (p + 1)) lt, a, b) refl
        | inr far ↦ rw (le-ltb q (8 * p) le, differs (q / 8) p (λ e. omega (arith, e)), le-ltb q (8 * (p + 1)) far) refl
      ]
    ]

pub whole : (o : Order) (body : List ℕ) (q : ℕ) → (ltb q (8 * length body) && byte_bit o body q) ≡ byte_bit o body q
whole o body q =
    elim (cases_lt q (8 * length body)) [
      | inl lt ↦ rw (lt-ltb q (8 * length body) lt) refl
      | inr le ↦
          rw (le-ltb q (8 * length body) le)
          (sym (ap (λ i. bit (get_or body i 0) (q % 8)) (place_past o (length body) (q / 8) (omega arith)) ∙ ap (λ b. bit b (q % 8)) (get_or_past body (q / 8) 0 (omega arith)) ∙ bit_of_none (q % 8)))
    ]

pub all_read : (o : Order) (body : List ℕ) (count : ℕ) (s : FinSet nat_cmp) → is_high body ≡ false → (count ≡ length body) ⊎ (count ≡ 8192)
    → ((q : ℕ) → fin.contains s q ≡ (ltb q (8 * count) && byte_bit o body q)) → s ≡ bits_of o body
all_read o body count s low is h = same s (bits_of o body) (λ q. h q ∙ at q is ∙ sym (in_set_of (byte_bit o body) (8 * length body) q))
  where
    at : (q : ℕ) → (count ≡ length body) ⊎ (count ≡ 8192) → (ltb q (8 * count) && byte_bit o body q) ≡ (ltb q (8 * length body) && byte_bit o body q)
    at q (inl e) = rw e refl
    at q (inr e) =
        rw e (elim (cases_lt q (8 * 8192)) [
          | inl lt ↦ rw (lt-ltb q (8 * 8192) lt) (sym (whole o body q))
          | inr le ↦ rw (le-ltb q (8 * 8192) le) (sym (whole o body q ∙ high_none o body low q (omega arith)))
        ])

-- the bits of a byte that is written
abbrev Low : FinSet nat_cmp → ℕ → ℕ → ℕ → Type 0
Low s p k n = (n < 2 ^ k) × ((i : ℕ) → i < k → bit n i ≡ fin.contains s (8 * p + i))

low_step : (s : FinSet nat_cmp) (p k n : ℕ) (c : Bool) → fin.contains s (8 * p + k) ≡ c → Low s p k n → Low s p (suc k) (cond c (1 * 2 ^ k + n) n)
low_step s p k n true e h = (
  omega (arith, h.0, pow-suc 2 k),
  λ i within.
      elim (cases_lt i k) [
        | inl lt ↦ ap (λ x. eqb x 1) (bit_at_cat_low 1 k n i lt) ∙ h.1 i lt
        | inr le ↦
            let is : i ≡ k = omega arith in
            let none : k - k ≡ 0 = omega arith in
            rw is (ap (λ x. eqb x 1) (bit_at_cat_high 1 k n k h.0 (omega arith) ∙ ap (bit_at 1) none) ∙ sym e)
      ],
)
low_step s p k n false e h = (
  omega (arith, h.0, pow-suc 2 k),
  λ i within.
      elim (cases_lt i k) [
        | inl lt ↦ h.1 i lt
        | inr le ↦
            let is : i ≡ k = omega arith in
            rw is (ap (λ x. eqb x 1) (bit_at_above n k k h.0 (omega arith)) ∙ sym e)
      ],
)

pub low_bits_are : (s : FinSet nat_cmp) (p k : ℕ) → Low s p k (low_bits s p k)
low_bits_are s p zero = (omega arith, λ i h. absurd (omega arith))
low_bits_are s p (suc k) = low_step s p k (low_bits s p k) (fin.contains s (8 * p + k)) refl (low_bits_are s p k)

pub byte_is : (s : FinSet nat_cmp) (p n : ℕ) → n < 256 → ((k : ℕ) → k < 8 → bit n k ≡ fin.contains s (8 * p + k)) → n ≡ byte_of s p
unfolding byte_of
byte_is s p n small h =
    let low = low_bits_are s p 8 in
    same_from_bits_below 8 n (byte_of s p) small low.0 (λ i within. same_bit (bit_at n i) (bit_at (byte_of s p) i) (bit_at-lt n i) (bit_at-lt (byte_of s p) i) (h i within ∙ sym (low.1 i within)))
  where
    same_bit : (a b : ℕ) → a < 2 → b < 2 → eqb a 1 ≡ eqb b 1 → a ≡ b
    same_bit zero zero h k e = refl
    same_bit zero (suc zero) h k e = absurd (true≢false (sym e))
    same_bit (suc zero) zero h k e = absurd (true≢false e)
    same_bit (suc zero) (suc zero) h k e = refl
    same_bit (suc (suc a)) b h k e = absurd (omega arith)
    same_bit a (suc (suc b)) h k e = absurd (omega arith)

-- how many bytes cover the set
pub byte_none : (s : FinSet nat_cmp) (p : ℕ) → ((q : ℕ) → 8 * p ≤ q → fin.contains s q ≡ false) → byte_of s p ≡ 0
byte_none s p none = sym (byte_is s p 0 (omega arith) (λ k h. bit_of_none k ∙ sym (none (8 * p + k) (omega arith))))

pub covering_past : (s : FinSet nat_cmp) (b d : ℕ) → ((q : ℕ) → 8 * b ≤ q → fin.contains s q ≡ false) → covering s (b + d) ≡ covering s b
unfolding covering
covering_past s b zero none = let e : b + 0 ≡ b = omega arith in rw e refl
covering_past s b (suc d) none =
    let e : b + suc d ≡ suc (b + d) = omega arith in
    ap (covering s) e ∙ rw (byte_none s (b + d) (λ q h. none q (omega arith))) (covering_past s b d none)

pub covering_bound : (s : FinSet nat_cmp) (b : ℕ) → b ≤ 8192 → ((q : ℕ) → 8 * b ≤ q → fin.contains s q ≡ false) → covering s b ≡ width s
unfolding width
covering_bound s b few none = let e : b + (8192 - b) ≡ 8192 = omega arith in sym (ap (covering s) (sym e) ∙ covering_past s b (8192 - b) none)

pub covering_none : (s : FinSet nat_cmp) → covering s 0 ≡ 0
unfolding covering
covering_none s = refl

pub covering_down : (s : FinSet nat_cmp) (n : ℕ) → 0 < n → byte_of s (n - 1) ≡ 0 → covering s n ≡ covering s (n - 1)
unfolding covering
covering_down s zero h e = absurd (omega arith)
covering_down s (suc n) h e = let m : suc n - 1 ≡ n = omega arith in rw m (rw (rw m at e) refl)

pub covering_stop : (s : FinSet nat_cmp) (n : ℕ) → 0 < n → (byte_of s (n - 1) ≡ 0 → ⊥) → covering s n ≡ n
unfolding covering
covering_stop s zero h e = absurd (omega arith)
covering_stop s (suc n) h e = rw (differs (byte_of s n) 0 (let m : suc n - 1 ≡ n = omega arith in rw m at e)) refl
