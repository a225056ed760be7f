-- A set of bits is read as it is spelled, and what is read is spelled so.
use Rattle.std.proofs.Common.{◌≡◌, ℕ, zero, suc, ◌+◌, ◌*◌, ◌/◌, ◌%◌, ◌<◌, ◌≤◌, Bool, true, false, cond, ltb, eqb, List, ◌++◌, length, get_or, take, drop, map, nat_cmp, Option, Some, None, Ok, Err, refl, sym, ap, subst, ◌∙◌, arith, inl, inr, append_assoc}
use Rattle.std.proofs.lemmas.Bool.{cases_lt, le-ltb, ltb-false, eqb-true}
use Rattle.std.proofs.lemmas.List.{get_or_past, take_at, drop_at, take-append-drop, length-take, length-append}
use Rattle.std.proofs.lemmas.List.FromFn.{length-map-range_with_len, get_or-map-range_with_len}
use Rattle.std.specs.List.{range_with_len}
use Rattle.std.specs.FinSet as fin
use Rattle.std.specs.FinSet.{FinSet}
use Rattle.pva_wire.specs.declared.order.Order.{Order}
use Rattle.pva_wire.specs.declared.fault.Cause.TheVariants.{Short, Range}
use Rattle.pva_wire.specs.Spelling.{SpellsSize, IsBytes, canonical_size}
use Rattle.pva_wire.specs.Reading.{size_at}
use Rattle.pva_wire.specs.Bits.{place, byte_bit, SpellsBits, AllLow, byte_of, width, covering, canonical_bits, is_high, bits_of, bits_of_size, bits_at}
use Rattle.pva_wire.proofs.Takes.{Takes, IsBytes-drop, IsBytes-take, chosen, ok_is, bind_ok}
use Rattle.pva_wire.proofs.Sizes.{size_again, size_takes}
use Rattle.pva_wire.proofs.OneReading.{canonical_spells}
use Rattle.pva_wire.proofs.BitsHeld.{place_place, place_past, place_within, high_none, high_all, low_bits_are, whole}
use Rattle.pvd_type.specs.Sets.{bit}
use Rattle.pvd_type.proofs.Sets.{same, in_set_of, bit_of_none}

body_again : (o : Order) (left : ℕ) (body rest : List ℕ) → is_high body ≡ false → bits_of_size o left (Some (length body)) (body ++ rest) ≡ Ok (bits_of o body, rest)
body_again o left body rest low =
    let enough : ltb (length (body ++ rest)) (length body) ≡ false = le-ltb (length (body ++ rest)) (length body) (omega (arith, length-append body rest)) in
    rw (enough, take_at body rest (length body) refl, drop_at body rest (length body) refl, low) refl

pub held_by : (o : Order) (body : List ℕ) (s : FinSet nat_cmp) → ((q : ℕ) → fin.contains s q ≡ byte_bit o body q) → bits_of o body ≡ s
held_by o body s h = same (bits_of o body) s (λ q. in_set_of (byte_bit o body) (8 * length body) q ∙ whole o body q ∙ sym (h q))

pub bits_again : (o : Order) (bytes rest : List ℕ) (s : FinSet nat_cmp) → SpellsBits o bytes s → bits_at o (bytes ++ rest) ≡ Ok (s, rest)
unfolding bits_at
bits_again o bytes rest s spelled =
    let (head, body, is_size, fits, holds, low, parts) = spelled in
    let none : is_high body ≡ false = high_all o body fits (λ q h. sym (holds q) ∙ low q h) in
    ap (λ (t : List ℕ). bits_at o (t ++ rest)) parts ∙ ap (bits_at o) (append_assoc head body rest)
    ∙ rw (size_again o head (body ++ rest) (Some (length body)) is_size) (body_again o (length (head ++ (body ++ rest))) body rest none ∙ ap (λ (x : FinSet nat_cmp). Ok (x, rest)) (held_by o body s holds))

of_size_takes : (o : Order) (left : ℕ) (bytes : List ℕ) (size : Option ℕ) (after : List ℕ) (x : FinSet nat_cmp × List ℕ) → (text : List ℕ) × SpellsSize o text size × Takes bytes text after → bits_of_size o left size after ≡ Ok x
    → (text : List ℕ) × SpellsBits o text x.0 × Takes bytes text x.1
of_size_takes o left bytes None after x taken h = absurd cc
of_size_takes o left bytes (Some n) after x taken h =
    elim (chosen (ltb (length after) n) (Err (Short, left)) (cond (is_high (take n after)) (Err (Range, left)) (Ok (bits_of o (take n after), drop n after))) (Ok x) h) [
      | inl short ↦ absurd cc
      | inr a ↦ elim (chosen (is_high (take n after)) (Err (Range, left)) (Ok (bits_of o (take n after), drop n after)) (Ok x) a.1) [
        | inl high ↦ absurd cc
        | inr b ↦
            let body : List ℕ = take n after in
            let enough : n ≤ length after = ltb-false (length after) n a.0 in
            let size : length body ≡ n = omega (arith, length-take n after) in
            let is_size : SpellsSize o taken.0 (Some (length body)) = rw size taken.1 in
            let fits : IsBytes body = IsBytes-take n after taken.2.rest_fits in
            let holds : (q : ℕ) → fin.contains (bits_of o body) q ≡ byte_bit o body q = λ q. in_set_of (byte_bit o body) (8 * length body) q ∙ whole o body q in
            let low : AllLow (bits_of o body) = λ q h. holds q ∙ high_none o body b.0 q h in
            subst (λ (y : FinSet nat_cmp × List ℕ). (text : List ℕ) × SpellsBits o text y.0 × Takes bytes text y.1) (ok_is (bits_of o body, drop n after) x b.1) (
              taken.0 ++ body,
              (taken.0, body, is_size, fits, holds, low, refl),
              record {
                parts = taken.2.parts ∙ ap (λ (r : List ℕ). taken.0 ++ r) (sym (take-append-drop n after)) ∙ sym (append_assoc taken.0 body (drop n after));
                rest_fits = IsBytes-drop n after taken.2.rest_fits;
              },
            )
      ]
    ]

pub bits_takes : (o : Order) (bytes : List ℕ) (x : FinSet nat_cmp × List ℕ) → IsBytes bytes → bits_at o bytes ≡ Ok x → (text : List ℕ) × SpellsBits o text x.0 × Takes bytes text x.1
unfolding bits_at
bits_takes o bytes x fits h =
    let b = bind_ok (size_at o bytes) (λ size. bits_of_size o (length bytes) size.0 size.1) x h in
    of_size_takes o (length bytes) bytes b.0.0 b.0.1 x (size_takes o bytes b.0 fits b.1) b.2

-- the canonical spelling
covering_few : (s : FinSet nat_cmp) (n : ℕ) → covering s n ≤ n
unfolding covering
covering_few s zero = omega arith
covering_few s (suc n) = step (eqb (byte_of s n) 0) (covering_few s n)
  where
    step : (b : Bool) → covering s n ≤ n → cond b (covering s n) (suc n) ≤ suc n
    step true h = omega arith
    step false h = omega arith

covered : (s : FinSet nat_cmp) (n p c : ℕ) (b : Bool) → eqb (byte_of s n) 0 ≡ b → (c ≤ p → p < n → byte_of s p ≡ 0) → cond b c (suc n) ≤ p → p < suc n → byte_of s p ≡ 0
covered s n p c true e rest h within =
    elim (cases_lt p n) [
      | inl lt ↦ rest h lt
      | inr le ↦ let is : p ≡ n = omega arith in rw is (eqb-true (byte_of s n) 0 e)
    ]
covered s n p c false e rest h within = absurd (omega arith)

covering_covers : (s : FinSet nat_cmp) (n p : ℕ) → covering s n ≤ p → p < n → byte_of s p ≡ 0
unfolding covering
covering_covers s zero p h within = absurd (omega arith)
covering_covers s (suc n) p h within = covered s n p (covering s n) (eqb (byte_of s n) 0) refl (covering_covers s n p) h within

pub byte_bits : (s : FinSet nat_cmp) (p k : ℕ) → k < 8 → bit (byte_of s p) k ≡ fin.contains s (8 * p + k)
unfolding byte_of
byte_bits s p k h = (low_bits_are s p 8).1 k h

byte_small : (s : FinSet nat_cmp) (p : ℕ) → byte_of s p < 256
unfolding byte_of
byte_small s p = (low_bits_are s p 8).0

width_few : (s : FinSet nat_cmp) → width s ≤ 8192
unfolding width
width_few s = covering_few s 8192

width_covers : (s : FinSet nat_cmp) (p : ℕ) → width s ≤ p → p < 8192 → byte_of s p ≡ 0
unfolding width
width_covers s p h within = covering_covers s 8192 p h within

abbrev body_bytes : Order → FinSet nat_cmp → List ℕ
body_bytes o s = map (λ j. byte_of s (place o (width s) j)) (range_with_len 0 (width s))

body_len : (o : Order) (s : FinSet nat_cmp) → length (body_bytes o s) ≡ width s
body_len o s = length-map-range_with_len (λ j. byte_of s (place o (width s) j)) 0 (width s)

body_fits : (o : Order) (s : FinSet nat_cmp) → IsBytes (body_bytes o s)
body_fits o s i =
    elim (cases_lt i (width s)) [
      | inl lt ↦ rw (get_or-map-range_with_len (λ j. byte_of s (place o (width s) j)) 0 (width s) i i 0 lt (omega arith)) (byte_small s (place o (width s) i))
      | inr le ↦ rw (get_or_past (body_bytes o s) i 0 (omega (arith, body_len o s))) (omega arith)
    ]

none_past : (s : FinSet nat_cmp) → AllLow s → (q : ℕ) → width s ≤ q / 8 → fin.contains s q ≡ false
none_past s low q h =
    elim (cases_lt q 65536) [
      | inl lt ↦
          let at : 8 * (q / 8) + q % 8 ≡ q = omega arith in
          ap (fin.contains s) (sym at) ∙ sym (byte_bits s (q / 8) (q % 8) (omega arith)) ∙ ap (λ n. bit n (q % 8)) (width_covers s (q / 8) h (omega arith)) ∙ bit_of_none (q % 8)
      | inr le ↦ low q le
    ]

body_holds : (o : Order) (s : FinSet nat_cmp) → AllLow s → (q : ℕ) → fin.contains s q ≡ byte_bit o (body_bytes o s) q
body_holds o s low q =
    rw (body_len o s) (elim (cases_lt (q / 8) (width s)) [
      | inl lt ↦
          let at : 8 * (q / 8) + q % 8 ≡ q = omega arith in
          let p : ℕ = place o (width s) (q / 8) in
          let there : get_or (body_bytes o s) p 0 ≡ byte_of s (place o (width s) p) = get_or-map-range_with_len (λ j. byte_of s (place o (width s) j)) 0 (width s) p p 0 (place_within o (width s) (q / 8) lt) (omega arith) in
          ap (fin.contains s) (sym at) ∙ sym (byte_bits s (q / 8) (q % 8) (omega arith)) ∙ ap (λ n. bit (byte_of s n) (q % 8)) (sym (place_place o (width s) (q / 8))) ∙ ap (λ n. bit n (q % 8)) (sym there)
      | inr le ↦
          none_past s low q le
          ∙ sym (ap (λ i. bit (get_or (body_bytes o s) i 0) (q % 8)) (place_past o (width s) (q / 8) le) ∙ ap (λ n. bit n (q % 8)) (get_or_past (body_bytes o s) (q / 8) 0 (omega (arith, body_len o s))) ∙ bit_of_none (q % 8))
    ])

pub canonical_bits_spell : (o : Order) (s : FinSet nat_cmp) → AllLow s → SpellsBits o (canonical_bits o s) s
canonical_bits_spell o s low = (
  canonical_size o (width s),
  body_bytes o s,
  rw (body_len o s) (canonical_spells o (width s) (omega (arith, width_few s))),
  body_fits o s,
  body_holds o s low,
  low,
  refl,
)
