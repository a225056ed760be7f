-- A set by what it contains.
use Rattle.std.proofs.Common.{max, min, ◌≡◌, ℕ, zero, suc, ◌+◌, ◌*◌, ◌/◌, ◌%◌, ◌^◌, ◌<◌, ◌≤◌, Bool, true, false, cond, ◌&&◌, ◌||◌, ltb, eqb, List, [], ◌∷◌, length, get_or, nat_cmp, refl, sym, ap, ◌∙◌, arith, inl, inr, w64, add-zero, pow_pos, ◌-◌}
use Rattle.std.proofs.lemmas.Bool.{cases_lt, lt-ltb, le-ltb, eq-eqb, true≢false}
use Rattle.std.proofs.lemmas.Bool.Decides.{eqb_tells}
use Rattle.std.proofs.lemmas.List.{get_or_past, get_or-set_same, get_or-set_other}
use Rattle.std.proofs.lemmas.Nat.Bits.{bit_at-zero, bit_at-lt, bit_at-trailing_zeros, bit_at_or, bit_at_and, bit_at_set_same, bit_at_set_other, bit_at_cat_low, bit_at_cat_high, bit_at_above}
use Rattle.std.proofs.lemmas.Nat.{shr-shr, shr_le}
use Rattle.std.specs.Prelude.{set, bit_or, bit_and, None, Some, IsTrue, ◌↔◌}
use Rattle.std.specs.Int.{bit_at, trailing_zeros}
use Rattle.std.specs.List.{filter, list_any}
use Rattle.std.specs.Ordering.{eq_by_cmp}
use Rattle.std.specs.Cmp.{nat_cmp_total}
use Rattle.std.specs.FinSet as fin
use Rattle.std.specs.FinSet.{FinSet, contains-from_list, contains-insert, contains-union, contains-intersection, same_set, nat_cmp-IsAntisymmetric, contains-empty}
use Rattle.pvd_type.specs.Sets.{bit, downward, set_of, word_bit, held, IsFirstFrom}

pub differs : (a b : ℕ) → (a ≡ b → ⊥) → eqb a b ≡ false
differs a b h = elim (eqb_tells a b) [ inl p ↦ absurd (h p.1) | inr q ↦ q.0 ]

pub by_cmp : (a b : ℕ) → eq_by_cmp nat_cmp a b ≡ eqb a b
by_cmp a b =
    elim (cases_lt a b) [
      | inl lt ↦ rw (lt-ltb a b lt, differs a b (λ e. omega (arith, e))) refl
      | inr le ↦ elim (eqb_tells a b) [ inl p ↦ rw (le-ltb a b le, p.0) refl | inr q ↦ rw (le-ltb a b le, q.0) refl ]
    ]

pub same : (s t : FinSet nat_cmp) → ((q : ℕ) → fin.contains s q ≡ fin.contains t q) → s ≡ t
same s t h = same_set nat_cmp_total nat_cmp-IsAntisymmetric s t h

pub in_insert : (s : FinSet nat_cmp) (k q : ℕ) → fin.contains (fin.insert s k) q ≡ (eqb q k || fin.contains s q)
in_insert s k q = contains-insert nat_cmp_total s k q ∙ ap (λ b. b || fin.contains s q) (by_cmp q k)

and_false : (b : Bool) → (b && false) ≡ false
and_false true = refl
and_false false = refl

and_true : (b : Bool) → b ≡ (b && true)
and_true true = refl
and_true false = refl

any_step : (q x : ℕ) (xs : List ℕ) (b : Bool) → list_any (eq_by_cmp nat_cmp q) (cond b (x ∷ xs) xs) ≡ ((eqb q x && b) || list_any (eq_by_cmp nat_cmp q) xs)
any_step q x xs true = ap (λ b. b || list_any (eq_by_cmp nat_cmp q) xs) (by_cmp q x ∙ and_true (eqb q x))
any_step q x xs false = ap (λ b. b || list_any (eq_by_cmp nat_cmp q) xs) (sym (and_false (eqb q x)))

or_same : (b : Bool) → (b || false) ≡ b
or_same true = refl
or_same false = refl

one_more : (passes : ℕ → Bool) (q n : ℕ) → ((eqb q n && passes n) || (ltb q n && passes q)) ≡ (ltb q (n + 1) && passes q)
one_more passes q n =
    elim (cases_lt q n) [
      | inl lt ↦ rw (lt-ltb q n lt, lt-ltb q (n + 1) (omega arith), differs q n (λ e. omega (arith, e))) refl
      | inr le ↦ elim (eqb_tells q n) [
        | inl p ↦ rw (le-ltb q n le, p.1, eq-eqb n n refl, lt-ltb n (n + 1) (omega arith)) (or_same (passes n))
        | inr p ↦ rw (le-ltb q n le, p.0, le-ltb q (n + 1) (past q n le p.1)) refl
      ]
    ]
  where
    past : (q n : ℕ) → n ≤ q → (q ≡ n → ⊥) → n + 1 ≤ q
    past q n le other = elim (cases_lt n q) [ inl lt ↦ omega arith | inr ge ↦ absurd (other (omega arith)) ]

any_below : (passes : ℕ → Bool) (q n : ℕ) → list_any (eq_by_cmp nat_cmp q) (filter passes (downward n)) ≡ (ltb q n && passes q)
any_below passes q zero = ap (λ b. b && passes q) (sym (le-ltb q 0 (omega arith)))
any_below passes q (suc n) =
    any_step q n (filter passes (downward n)) (passes n) ∙ ap (λ b. (eqb q n && passes n) || b) (any_below passes q n)
    ∙ one_more passes q n ∙ (let e : n + 1 ≡ suc n = omega arith in ap (λ m. ltb q m && passes q) e)

pub in_set_of : (passes : ℕ → Bool) (n q : ℕ) → fin.contains (set_of passes n) q ≡ (ltb q n && passes q)
in_set_of passes n q = contains-from_list nat_cmp_total (filter passes (downward n)) q ∙ any_below passes q n

pub bit_of_none : (k : ℕ) → bit 0 k ≡ false
bit_of_none k = ap (λ n. eqb n 1) (bit_at-zero k)

pub past_words : (ws : List ℕ) (q : ℕ) → length ws ≤ q / 64 → word_bit ws q ≡ false
past_words ws q h = ap (λ n. bit n (q % 64)) (get_or_past ws (q / 64) 0 h) ∙ bit_of_none (q % 64)

pub in_held : (ws : List ℕ) (q : ℕ) → fin.contains (held ws) q ≡ word_bit ws q
in_held ws q =
    in_set_of (word_bit ws) (64 * length ws) q
    ∙ elim (cases_lt q (64 * length ws)) [
      | inl lt ↦ ap (λ b. b && word_bit ws q) (lt-ltb q (64 * length ws) lt)
      | inr le ↦ ap (λ b. b && word_bit ws q) (le-ltb q (64 * length ws) le) ∙ sym (past_words ws q (omega arith))
    ]

pub held_none : held [] ≡ fin.empty
held_none = refl

pub one_set : (old new : List ℕ) (b : ℕ) → ((j : ℕ) → get_or new j 0 ≡ get_or old j 0) → b / 64 < length new
    → held (set new (b / 64) (bit_or (get_or new (b / 64) 0) (1 * 2 ^ (b % 64) % 2 ^ 64))) ≡ fin.insert (held old) b
one_set old new b alike within =
    same _ _ (λ q. in_held (set new (b / 64) w) q ∙ at q ∙ sym (in_insert (held old) b q ∙ ap (λ x. eqb q b || x) (in_held old q)))
  where
    w : ℕ
    w = bit_or (get_or new (b / 64) 0) (1 * 2 ^ (b % 64) % 2 ^ 64)

    small : b % 64 < 64
    small = omega arith

    at : (q : ℕ) → word_bit (set new (b / 64) w) q ≡ (eqb q b || word_bit old q)
    at q =
        elim (eqb_tells q b) [
          | inl p ↦ rw (p.1, eq-eqb b b refl, get_or-set_same new (b / 64) w 0 within) (ap (λ n. eqb n 1) (bit_at_set_same w64 (get_or new (b / 64) 0) (b % 64) small))
          | inr p ↦ rw p.0 (elim (eqb_tells (q / 64) (b / 64)) [
            | inl e ↦
                let other : q % 64 ≡ b % 64 → ⊥ = λ r. p.1 (omega (arith, e.1, r)) in
                rw (e.1, get_or-set_same new (b / 64) w 0 within) (ap (λ n. eqb n 1) (bit_at_set_other w64 (get_or new (b / 64) 0) (b % 64) small (q % 64) other) ∙ ap (λ n. bit n (q % 64)) (alike (b / 64)))
            | inr e ↦ rw (get_or-set_other new (b / 64) (q / 64) w 0 e.1) (ap (λ n. bit n (q % 64)) (alike (q / 64)))
          ])
        ]

either_bit : (a b : ℕ) → a < 2 → b < 2 → eqb (max a b) 1 ≡ (eqb a 1 || eqb b 1)
either_bit zero zero h k = refl
either_bit zero (suc zero) h k = refl
either_bit (suc zero) zero h k = refl
either_bit (suc zero) (suc zero) h k = refl
either_bit (suc (suc a)) b h k = absurd (omega arith)
either_bit a (suc (suc b)) h k = absurd (omega arith)

both_bits : (a b : ℕ) → a < 2 → b < 2 → eqb (min a b) 1 ≡ (eqb a 1 && eqb b 1)
both_bits zero zero h k = refl
both_bits zero (suc zero) h k = refl
both_bits (suc zero) zero h k = refl
both_bits (suc zero) (suc zero) h k = refl
both_bits (suc (suc a)) b h k = absurd (omega arith)
both_bits a (suc (suc b)) h k = absurd (omega arith)

pub bit_of_or : (m n k : ℕ) → bit (bit_or m n) k ≡ (bit m k || bit n k)
bit_of_or m n k = ap (λ x. eqb x 1) (bit_at_or m n k) ∙ either_bit (bit_at m k) (bit_at n k) (bit_at-lt m k) (bit_at-lt n k)

pub bit_of_and : (m n k : ℕ) → bit (bit_and m n) k ≡ (bit m k && bit n k)
bit_of_and m n k = ap (λ x. eqb x 1) (bit_at_and m n k) ∙ both_bits (bit_at m k) (bit_at n k) (bit_at-lt m k) (bit_at-lt n k)

module _ (a b new : List ℕ) where
  pub joined : ((j : ℕ) → get_or new j 0 ≡ bit_or (get_or a j 0) (get_or b j 0)) → held new ≡ fin.union (held a) (held b)
  joined each =
      same _ _ (λ q. in_held new q ∙ ap (λ n. bit n (q % 64)) (each (q / 64)) ∙ bit_of_or (get_or a (q / 64) 0) (get_or b (q / 64) 0) (q % 64)
      ∙ sym (contains-union nat_cmp_total (held a) (held b) q ∙ rw (in_held a q, in_held b q) refl))

  pub met : ((j : ℕ) → get_or new j 0 ≡ bit_and (get_or a j 0) (get_or b j 0)) → held new ≡ fin.intersection (held a) (held b)
  met each =
      same _ _ (λ q. in_held new q ∙ ap (λ n. bit n (q % 64)) (each (q / 64)) ∙ bit_of_and (get_or a (q / 64) 0) (get_or b (q / 64) 0) (q % 64)
      ∙ sym (contains-intersection nat_cmp_total (held a) (held b) q ∙ rw (in_held a q, in_held b q) refl))

pub bit_of_byte : (n s k : ℕ) → k < 8 → bit (n / 2 ^ s % 256) k ≡ bit n (s + k)
bit_of_byte n s k h =
    let m : ℕ = n / 2 ^ s in
    let e : m ≡ m / 256 * 2 ^ 8 + m % 256 = omega arith in
    ap (λ x. eqb x 1) (sym (bit_at_cat_low (m / 256) 8 (m % 256) k h) ∙ ap (λ x. bit_at x k) (sym e) ∙ ap (λ x. x % 2) (shr-shr n s k))

pub byte_of_words : (ws : List ℕ) (place k : ℕ) → k < 8 → bit (get_or ws (place / 8) 0 / 2 ^ (place % 8 * 8) % 256) k ≡ fin.contains (held ws) (8 * place + k)
byte_of_words ws place k h =
    let a : (8 * place + k) / 64 ≡ place / 8 = omega arith in
    let b : (8 * place + k) % 64 ≡ place % 8 * 8 + k = omega arith in
    bit_of_byte (get_or ws (place / 8) 0) (place % 8 * 8) k h ∙ sym (in_held ws (8 * place + k) ∙ rw (a, b) refl)

pub past_all : (ws : List ℕ) (q : ℕ) → 64 * length ws ≤ q → fin.contains (held ws) q ≡ false
past_all ws q h = in_held ws q ∙ past_words ws q (omega arith)

pub no_bit : (n i : ℕ) → bit n i ≡ false → bit_at n i ≡ 0
no_bit n i e = low (bit_at n i) (bit_at-lt n i) e
  where
    low : (b : ℕ) → b < 2 → eqb b 1 ≡ false → b ≡ 0
    low zero h e = refl
    low (suc zero) h e = absurd (true≢false e)
    low (suc (suc b)) h e = absurd (omega arith)

pub held_alike : (new old : List ℕ) → ((j : ℕ) → get_or new j 0 ≡ get_or old j 0) → held new ≡ held old
held_alike new old each = same _ _ (λ q. in_held new q ∙ ap (λ n. bit n (q % 64)) (each (q / 64)) ∙ sym (in_held old q))

-- a word keeps the low bits of a number that is moved up
-- a word without a bit
abbrev zero_word : List ℕ
zero_word = 0 ∷ []

abbrev no_word : List ℕ
no_word = []

alike_zero : (j : ℕ) → get_or zero_word j 0 ≡ get_or no_word j 0
alike_zero zero = refl
alike_zero (suc j) = refl

-- It holds nothing.
pub held_zero : held (0 ∷ []) ≡ fin.empty
held_zero = held_alike (0 ∷ []) [] alike_zero ∙ held_none

kept : (x r : ℕ) → r < 64 → bit_at (x % 2 ^ 64) r ≡ bit_at x r
kept x r h =
    let e : x ≡ x / 2 ^ 64 * 2 ^ 64 + x % 2 ^ 64 = omega arith in
    sym (bit_at_cat_low (x / 2 ^ 64) 64 (x % 2 ^ 64) r h) ∙ ap (λ y. bit_at y r) (sym e)

moved_low : (b s r : ℕ) → r < s → bit_at (b * 2 ^ s) r ≡ 0
moved_low b s r h = ap (λ y. bit_at y r) (sym (add-zero (b * 2 ^ s))) ∙ bit_at_cat_low b s 0 r h ∙ bit_at-zero r

moved_high : (b s r : ℕ) → s ≤ r → bit_at (b * 2 ^ s) r ≡ bit_at b (r - s)
moved_high b s r h = ap (λ y. bit_at y r) (sym (add-zero (b * 2 ^ s))) ∙ bit_at_cat_high b s 0 r (pow_pos s) h

-- the bits of a byte in its place of a word
pub placed : (b place q : ℕ) → b < 256 → q / 64 ≡ place / 8 → bit (b * 2 ^ (place % 8 * 8) % 2 ^ 64) (q % 64) ≡ (eqb (q / 8) place && bit b (q % 8))
placed b place q small here =
    ap (λ n. eqb n 1) (kept (b * 2 ^ (place % 8 * 8)) (q % 64) (omega arith))
    ∙ elim (eqb_tells (q / 8) place) [
      | inl p ↦
          let e : q % 64 - place % 8 * 8 ≡ q % 8 = omega (arith, p.1) in
          rw p.0 (ap (λ n. eqb n 1) (moved_high b (place % 8 * 8) (q % 64) (omega (arith, p.1)) ∙ ap (bit_at b) e))
      | inr p ↦ rw p.0 (ap (λ n. eqb n 1) (none p.1))
    ]
  where
    none : (q / 8 ≡ place → ⊥) → bit_at (b * 2 ^ (place % 8 * 8)) (q % 64) ≡ 0
    none other =
        elim (cases_lt (q % 64) (place % 8 * 8)) [
          | inl lt ↦ moved_low b (place % 8 * 8) (q % 64) lt
          | inr le ↦ moved_high b (place % 8 * 8) (q % 64) le ∙ elim (cases_lt (q % 64 - place % 8 * 8) 8) [
            | inl lt ↦ absurd (other (omega (arith, here)))
            | inr ge ↦ bit_at_above b 8 (q % 64 - place % 8 * 8) (omega (arith, small)) ge
          ]
        ]

pub byte_set : (old new : List ℕ) (place b : ℕ) → ((j : ℕ) → get_or new j 0 ≡ get_or old j 0) → place / 8 < length new → b < 256 → (q : ℕ)
    → fin.contains (held (set new (place / 8) (bit_or (get_or new (place / 8) 0) (b * 2 ^ (place % 8 * 8) % 2 ^ 64)))) q ≡ (fin.contains (held old) q || (eqb (q / 8) place && bit b (q % 8)))
byte_set old new place b alike within small q =
    in_held (set new (place / 8) w) q ∙ at ∙ ap (λ x. x || (eqb (q / 8) place && bit b (q % 8))) (sym (in_held old q))
  where
    s : ℕ
    s = b * 2 ^ (place % 8 * 8) % 2 ^ 64

    w : ℕ
    w = bit_or (get_or new (place / 8) 0) s

    at : word_bit (set new (place / 8) w) q ≡ (word_bit old q || (eqb (q / 8) place && bit b (q % 8)))
    at =
        elim (eqb_tells (q / 64) (place / 8)) [
          | inl e ↦
              let first : bit (get_or new (place / 8) 0) (q % 64) ≡ word_bit old q = ap (λ n. bit n (q % 64)) (alike (place / 8)) ∙ ap (λ j. bit (get_or old j 0) (q % 64)) (sym e.1) in
              ap (λ j. bit (get_or (set new (place / 8) w) j 0) (q % 64)) e.1
              ∙ ap (λ n. bit n (q % 64)) (get_or-set_same new (place / 8) w 0 within)
              ∙ bit_of_or (get_or new (place / 8) 0) s (q % 64)
              ∙ (λ i. first i || placed b place q small e.1 i)
          | inr e ↦
              let other : eqb (q / 8) place ≡ false = differs (q / 8) place (λ p. e.1 (omega (arith, p))) in
              ap (λ n. bit n (q % 64)) (get_or-set_other new (place / 8) (q / 64) w 0 e.1 ∙ alike (q / 64)) ∙ rw other (sym (or_same (word_bit old q)))
        ]

positive : (n : ℕ) → (n ≡ 0 → ⊥) → 0 < n
positive zero some = absurd (some refl)
positive (suc n) some = omega arith

-- the numbers of a word x from b on
module _ (ws : List ℕ) (b x : ℕ) (is : x ≡ get_or ws (b / 64) 0) where
  held_from : (k : ℕ) → b % 64 + k < 64 → fin.contains (held ws) (b + k) ≡ bit (x / 2 ^ (b % 64)) k
  held_from k h =
      let a : (b + k) / 64 ≡ b / 64 = omega (arith, h) in
      let r : (b + k) % 64 ≡ b % 64 + k = omega (arith, h) in
      let word : word_bit ws (b + k) ≡ bit x (b % 64 + k) = rw (a, r, is) refl in
      in_held ws (b + k) ∙ word ∙ ap (λ n. eqb (n % 2) 1) (sym (shr-shr x (b % 64) k))

  held_past : (q : ℕ) → b ≤ q → q < b / 64 * 64 + 64 → fin.contains (held ws) q ≡ bit (x / 2 ^ (b % 64)) (q - b)
  held_past q from to =
      let e : q ≡ b + (q - b) = omega (arith, from) in
      ap (fin.contains (held ws)) e ∙ held_from (q - b) (omega (arith, from, to))

  -- where none of its bits is left
  pub none_left : x / 2 ^ (b % 64) ≡ 0 → (q : ℕ) → b ≤ q → q < b / 64 * 64 + 64 → fin.contains (held ws) q ≡ false
  none_left zeros q from to = held_past q from to ∙ ap (λ n. bit n (q - b)) zeros ∙ bit_of_none (q - b)

  -- the least bit that is left
  pub least_left : x < 2 ^ 64 → (x / 2 ^ (b % 64) ≡ 0 → ⊥)
      → (fin.contains (held ws) (b + trailing_zeros w64 (x / 2 ^ (b % 64))) ≡ true)
      × ((q : ℕ) → b ≤ q → q < b + trailing_zeros w64 (x / 2 ^ (b % 64)) → fin.contains (held ws) q ≡ false)
  least_left small some = (
    held_from t within ∙ ap (λ n. eqb n 1) lowest.1,
    λ q from to. held_past q from (omega (arith, within, to)) ∙ ap (λ n. eqb n 1) (lowest.2 (q - b) (omega (arith, from, to))),
  )
    where
      t : ℕ
      t = trailing_zeros w64 (x / 2 ^ (b % 64))

      lowest : (t < 64) × (bit_at (x / 2 ^ (b % 64)) t ≡ 1) × ((i : ℕ) → i < t → bit_at (x / 2 ^ (b % 64)) i ≡ 0)
      lowest = bit_at-trailing_zeros w64 (x / 2 ^ (b % 64)) (positive (x / 2 ^ (b % 64)) some) (omega (arith, small, shr_le x (b % 64)))

      within : b % 64 + t < 64
      within =
          elim (cases_lt (b % 64 + t) 64) [
            | inl lt ↦ lt
            | inr le ↦
                let none : bit_at x (b % 64 + t) ≡ 0 = bit_at_above x 64 (b % 64 + t) small le in
                let some : bit_at x (b % 64 + t) ≡ 1 = ap (λ n. n % 2) (sym (shr-shr x (b % 64) t)) ∙ lowest.1 in
                absurd (omega (arith, sym none ∙ some))
          ]

-- whether a set is empty, by its first number
module _ (s : FinSet nat_cmp) where
  pub nothing_held : IsFirstFrom s 0 None → IsTrue true ↔ (s ≡ fin.empty)
  nothing_held none = (λ _. same s fin.empty (λ q. none q (omega arith) ∙ sym (contains-empty nat_cmp q)), λ _. refl)

  pub some_held : {n : ℕ} → IsFirstFrom s 0 (Some n) → IsTrue false ↔ (s ≡ fin.empty)
  some_held {n} first = (λ t. absurd cc, λ e. absurd (true≢false (sym first.1 ∙ ap (λ x. fin.contains x n) e ∙ contains-empty nat_cmp n)))
