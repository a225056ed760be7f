-- The first number that is marked.
use Rattle.std.proofs.Common.{◌≡◌, ℕ, zero, suc, ◌+◌, ◌-◌, ◌*◌, ◌/◌, ◌%◌, get_or, ◌<◌, ◌≤◌, Bool, true, false, cond, ltb, List, length, take, drop, Option, Some, None, Ok, Err, refl, sym, ap, ◌∙◌, arith, inl, inr, nat_cmp, subst}
use Rattle.std.proofs.lemmas.Bool.{cases_lt, ltb-false, le-ltb}
use Rattle.std.proofs.lemmas.List.{length-take}
use Rattle.std.specs.FinSet.{FinSet, contains}
use Rattle.pva_wire.specs.declared.order.Order.{Order}
use Rattle.pva_wire.specs.declared.fault.Cause.TheVariants.{Short, Range}
use Rattle.pva_wire.specs.Reading.{size_at, count_of_size, count_at, counted_at}
use Rattle.pva_wire.specs.Bits.{place, byte_bit, is_high, bits_of, bits_of_size, bits_at}
use Rattle.pva_wire.proofs.Takes.{chosen, ok_is, bind_ok}
use Rattle.pva_wire.proofs.BitsHeld.{whole}
use Rattle.pvd_type.proofs.Sets.{in_set_of, bit_of_none}
use Rattle.pvd_codec.specs.Reading.{first_marked}

module _ (p : ℕ → Bool) where
  pub marked_here : (n k : ℕ) → 0 < k → p n ≡ true → first_marked p n k ≡ Some n
  unfolding first_marked
  marked_here n zero some h = absurd (omega arith)
  marked_here n (suc k) some h = ap (λ b. cond b (Some n) (first_marked p (n + 1) k)) h

  pub marked_later : (n e : ℕ) → n < e → p n ≡ false → first_marked p n (e - n) ≡ first_marked p (n + 1) (e - (n + 1))
  unfolding first_marked
  marked_later n e lt h = let k : e - n ≡ suc (e - (n + 1)) = omega arith in rw (k, h) refl

  pub marked_over : (n e : ℕ) → e ≤ n → first_marked p n (e - n) ≡ None
  unfolding first_marked
  marked_over n e le = let k : e - n ≡ 0 = omega arith in rw k refl

  -- numbers that aren't marked are passed over at once
  pub marked_past : (d n e : ℕ) → n + d ≤ e → ((q : ℕ) → n ≤ q → q < n + d → p q ≡ false) → first_marked p n (e - n) ≡ first_marked p (n + d) (e - (n + d))
  marked_past zero n e le none = let same : n + 0 ≡ n = omega arith in rw same refl
  marked_past (suc d) n e le none =
      let same : n + 1 + d ≡ n + suc d = omega arith in
      marked_later n e (omega arith) (none n (omega arith) (omega arith))
      ∙ marked_past d (n + 1) e (omega arith) (λ q above below. none q (omega arith) (omega arith))
      ∙ ap (λ m. first_marked p m (e - m)) same

  first_is : (b : Bool) (n : ℕ) (r : Option ℕ) → cond b (Some n) r ≡ None → (b ≡ false) × (r ≡ None)
  first_is true n r h = absurd cc
  first_is false n r h = (refl, h)

  pub none_marked : (n k : ℕ) → first_marked p n k ≡ None → (q : ℕ) → n ≤ q → q < n + k → p q ≡ false
  unfolding first_marked
  none_marked n zero h q above below = absurd (omega arith)
  none_marked n (suc k) h q above below =
      let (here, later) = first_is (p n) n (first_marked p (n + 1) k) h in
      elim (cases_lt n q) [
        | inl lt ↦ none_marked (n + 1) k later q (omega arith) (omega arith)
        | inr le ↦ let is : q ≡ n = omega arith in rw is here
      ]

  pub unmarked : (n k : ℕ) → ((q : ℕ) → n ≤ q → p q ≡ false) → first_marked p n k ≡ None
  unfolding first_marked
  unmarked n zero h = refl
  unmarked n (suc k) h = rw (h n (omega arith), unmarked (n + 1) k (λ q above. h q (omega arith))) refl

-- the bits of a byte of zeros
pub zero_byte : (order : Order) (body : List ℕ) (at q : ℕ) → get_or body (place order (length body) at) 0 ≡ 0 → q / 8 ≡ at → byte_bit order body q ≡ false
zero_byte order body at q none is = rw (is, none) (bit_of_none (q % 8))

-- what a count that was read says of its size
of_size : (left : ℕ) (size : Option ℕ) (bytes : List ℕ) (x : ℕ × List ℕ) → count_of_size left size bytes ≡ Ok x → (size ≡ Some x.0) × (bytes ≡ x.1)
of_size left None bytes x h = absurd cc
of_size left (Some n) bytes x h = let same = ok_is (n, bytes) x h in (ap (λ (y : ℕ × List ℕ). Some y.0) same, ap (λ (y : ℕ × List ℕ). y.1) same)

pub counted_size : (order : Order) (width : ℕ) (bytes : List ℕ) (x : ℕ × List ℕ) → counted_at order width bytes ≡ Ok x → (size_at order bytes ≡ Ok (Some x.0, x.1)) × (x.0 * width ≤ length x.1)
unfolding counted_at count_at
counted_size order width bytes x h =
    let b = bind_ok (count_at order bytes) (λ count. cond (ltb (length count.1) (count.0 * width)) (Err (Short, length bytes)) (Ok (count.0, count.1))) x h in
    let s = bind_ok (size_at order bytes) (λ size. count_of_size (length bytes) size.0 size.1) b.0 b.1 in
    let of = of_size (length bytes) s.0.0 s.0.1 b.0 s.2 in
    elim (chosen (ltb (length b.0.1) (b.0.0 * width)) (Err (Short, length bytes)) (Ok (b.0.0, b.0.1)) (Ok x) b.2) [
      | inl short ↦ absurd cc
      | inr enough ↦
          let same = ok_is (b.0.0, b.0.1) x enough.1 in (
            s.1 ∙ ap (λ (y : Option ℕ × List ℕ). Ok y) (λ i. (of.0 i, of.1 i)) ∙ ap (λ (y : ℕ × List ℕ). Ok (Some y.0, y.1)) same,
            subst (λ (y : ℕ × List ℕ). y.0 * width ≤ length y.1) same (ltb-false (length b.0.1) (b.0.0 * width) enough.0),
          )
    ]

-- a set of bits, after its size
pub bits_are : (order : Order) (bytes rest : List ℕ) (n : ℕ) (x : FinSet nat_cmp × List ℕ) → size_at order bytes ≡ Ok (Some n, rest) → bits_at order bytes ≡ Ok x → (x.0 ≡ bits_of order (take n rest)) × (x.1 ≡ drop n rest)
unfolding bits_at
bits_are order bytes rest n x size h =
    let after : bits_of_size order (length bytes) (Some n) rest ≡ Ok x = sym (rw size refl) ∙ h in
    elim (chosen (ltb (length rest) n) (Err (Short, length bytes)) (cond (is_high (take n rest)) (Err (Range, length bytes)) (Ok (bits_of order (take n rest), drop n rest))) (Ok x) after) [
      | inl short ↦ absurd cc
      | inr a ↦ elim (chosen (is_high (take n rest)) (Err (Range, length bytes)) (Ok (bits_of order (take n rest), drop n rest)) (Ok x) a.1) [
        | inl high ↦ absurd cc
        | inr b ↦ let same = ok_is (bits_of order (take n rest), drop n rest) x b.1 in (ap (λ (y : FinSet nat_cmp × List ℕ). y.0) (sym same), ap (λ (y : FinSet nat_cmp × List ℕ). y.1) (sym same))
      ]
    ]

pub in_bits : (order : Order) (body : List ℕ) (q : ℕ) → contains (bits_of order body) q ≡ byte_bit order body q
in_bits order body q = in_set_of (byte_bit order body) (8 * length body) q ∙ whole order body q

-- where no byte holds a bit from a start on, the set has none
pub none_from : (order : Order) (body : List ℕ) (start : ℕ) → first_marked (byte_bit order body) start (8 * length body - start) ≡ None → (q : ℕ) → start ≤ q → contains (bits_of order body) q ≡ false
none_from order body start h q above =
    elim (cases_lt q (8 * length body)) [
      | inl lt ↦ in_bits order body q ∙ none_marked (byte_bit order body) start (8 * length body - start) h q above (omega arith)
      | inr le ↦ in_set_of (byte_bit order body) (8 * length body) q ∙ rw (le-ltb q (8 * length body) le) refl
    ]

pub inside_bits : (order : Order) (bytes rest after : List ℕ) (n start : ℕ) (s : FinSet nat_cmp) → counted_at order 1 bytes ≡ Ok (n, rest) → first_marked (byte_bit order (take n rest)) start (8 * n - start) ≡ None
    → bits_at order bytes ≡ Ok (s, after) → (q : ℕ) → start ≤ q → contains s q ≡ false
inside_bits order bytes rest after n start s counted none read q above =
    let c = counted_size order 1 bytes (n, rest) counted in
    let is = bits_are order bytes rest n (s, after) c.0 read in
    let size : length (take n rest) ≡ n = omega (arith, length-take n rest, c.1) in
    ap (λ (t : FinSet nat_cmp). contains t q) is.0 ∙ none_from order (take n rest) start (ap (λ k. first_marked (byte_bit order (take n rest)) start (8 * k - start)) size ∙ none) q above
