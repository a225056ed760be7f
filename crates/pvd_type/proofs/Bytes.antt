-- Two sets, byte by byte.
use Rattle.std.proofs.Common.{◌≡◌, ℕ, ◌+◌, ◌*◌, ◌-◌, ◌^◌, ◌<◌, ◌≤◌, min, Bool, true, false, ◌&&◌, nat_cmp, refl, sym, ap, ◌∙◌, arith, inl, inr}
use Rattle.std.proofs.lemmas.Bool.{cases_lt}
use Rattle.std.proofs.lemmas.Nat.Bits.{bit_at-zero, same_from_bits_below}
use Rattle.std.specs.Prelude.{bit_and}
use Rattle.std.specs.Cmp.{nat_cmp_total}
use Rattle.std.specs.FinSet as fin
use Rattle.std.specs.FinSet.{FinSet, contains-intersection, contains-empty}
use Rattle.pvd_type.specs.Sets.{bit}
use Rattle.pvd_type.proofs.Sets.{same, bit_of_none, bit_of_and, no_bit}

-- the eight bits of a set from a place on
abbrev pub AreBits : FinSet nat_cmp → ℕ → ℕ → Type 0
AreBits s place x = (k : ℕ) → k < 8 → bit x k ≡ fin.contains s (8 * place + k)

module _ (s t : FinSet nat_cmp) (place x y : ℕ) (mine : AreBits s place x) (theirs : AreBits t place y) where
  both_bits : (k : ℕ) → k < 8 → bit (bit_and x y) k ≡ (fin.contains s (8 * place + k) && fin.contains t (8 * place + k))
  both_bits k less = bit_of_and x y k ∙ (λ i. mine k less i && theirs k less i)

  -- sets that have nothing in common have no bit in common
  pub apart : bit_and x y < 2 ^ 8 → fin.intersection s t ≡ fin.empty → bit_and x y ≡ 0
  apart small none =
      same_from_bits_below 8 (bit_and x y) 0 small (omega arith) (λ k less.
      no_bit (bit_and x y) k (both_bits k less ∙ sym (contains-intersection nat_cmp_total s t (8 * place + k)) ∙ ap (λ (z : FinSet nat_cmp). fin.contains z (8 * place + k)) none ∙ contains-empty nat_cmp (8 * place + k))
      ∙ sym (bit_at-zero k))

  -- and where they have no bit in common, nothing there is in both
  pub apart_on : bit_and x y ≡ 0 → ((k : ℕ) → k < 8 * place → (fin.contains s k && fin.contains t k) ≡ false) → (k : ℕ) → k < 8 * (place + 1) → (fin.contains s k && fin.contains t k) ≡ false
  apart_on zeros before k less =
      elim (cases_lt k (8 * place)) [
        | inl lt ↦ before k lt
        | inr le ↦
            let e : k ≡ 8 * place + (k - 8 * place) = omega (arith, le) in
            ap (λ (n : ℕ). fin.contains s n && fin.contains t n) e ∙ sym (both_bits (k - 8 * place) (omega (arith, less, le))) ∙ ap (λ (n : ℕ). bit n (k - 8 * place)) zeros ∙ bit_of_none (k - 8 * place)
      ]

-- sets with nothing in common
pub apart_all : (s t : FinSet nat_cmp) → ((k : ℕ) → (fin.contains s k && fin.contains t k) ≡ false) → fin.intersection s t ≡ fin.empty
apart_all s t none = same _ _ (λ k. contains-intersection nat_cmp_total s t k ∙ none k ∙ sym (contains-empty nat_cmp k))

and_none : (b : Bool) → (b && false) ≡ false
and_none true = refl
and_none false = refl

pub past_either : (s t : FinSet nat_cmp) (a b n : ℕ) → ((q : ℕ) → 8 * a ≤ q → fin.contains s q ≡ false) → ((q : ℕ) → 8 * b ≤ q → fin.contains t q ≡ false) → n ≡ min a b
    → (k : ℕ) → 8 * n ≤ k → (fin.contains s k && fin.contains t k) ≡ false
past_either s t a b n mine theirs is k past =
    elim (cases_lt a b) [
      | inl lt ↦ ap (λ (x : Bool). x && fin.contains t k) (mine k (omega (arith, past, is, lt)))
      | inr le ↦ ap (λ (x : Bool). fin.contains s k && x) (theirs k (omega (arith, past, is, le))) ∙ and_none (fin.contains s k)
    ]
