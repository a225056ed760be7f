-- A size is read as it is spelled, and what is read is spelled so.
use Rattle.std.proofs.Common.{◌≡◌, ℕ, suc, ◌-◌, ◌^◌, ◌<◌, ◌≤◌, false, cond, ltb, eqb, List, [], ◌∷◌, ◌++◌, length, take, drop, Option, Some, None, Ok, Err, refl, sym, ap, subst, ◌∙◌, arith, inl, inr}
use Rattle.std.proofs.lemmas.Bool.{cases_lt, ltb-false, le-ltb, eqb-true, eqb-false}
use Rattle.std.proofs.lemmas.List.{drop_at, take-append-drop, length-append}
use Rattle.pva_wire.specs.declared.order.Order.{Order}
use Rattle.pva_wire.specs.declared.fault.Cause.TheVariants.{Short, Range}
use Rattle.pva_wire.specs.Spelling.{word, SpellsSize, IsBytes}
use Rattle.pva_wire.specs.Reading.{number_of, long_size_at, size_at}
use Rattle.pva_wire.proofs.Takes.{Takes, IsBytes-drop, IsBytes-rest, chosen, differs, ok_is}
use Rattle.pva_wire.proofs.Digits.{number_len, number_again, number_back}

word_len : (o : Order) (n : ℕ) → length (word o n) ≡ 4
word_len o n = number_len o 4 n

word_again : (o : Order) (n : ℕ) (rest : List ℕ) → n < 2 ^ 32 → number_of o 4 (word o n ++ rest) ≡ n
word_again o n rest h = number_again o 4 n rest (omega arith)

below_254 : (b : ℕ) → b < 256 → (b ≡ 255 → ⊥) → (b ≡ 254 → ⊥) → b < 254
below_254 b h x y = elim (cases_lt b 254) [
  | inl lt ↦ lt
  | inr le ↦ elim (cases_lt b 255) [
    | inl lt ↦ absurd (y (omega arith))
    | inr le2 ↦ absurd (x (omega arith))
  ]
]

long_again : (o : Order) (left n : ℕ) (rest : List ℕ) → n < 2 ^ 31 - 1 → long_size_at o left (word o n ++ rest) ≡ Ok (Some n, rest)
unfolding long_size_at
long_again o left n rest h =
    let back : drop 4 (word o n ++ rest) ≡ rest = drop_at (word o n) rest 4 (word_len o n) in
    let enough : ltb (length (word o n ++ rest)) 4 ≡ false = le-ltb (length (word o n ++ rest)) 4 (omega (arith, length-append (word o n) rest, word_len o n)) in
    let again = word_again o n rest (omega arith) in
    let within : ltb (2 ^ 31 - 2) n ≡ false = le-ltb (2 ^ 31 - 2) n (omega arith) in
    rw (enough, again, within, back) refl

long_takes : (o : Order) (left : ℕ) (bytes : List ℕ) (x : Option ℕ × List ℕ) → IsBytes bytes → long_size_at o left bytes ≡ Ok x → (text : List ℕ) × SpellsSize o text x.0 × Takes (254 ∷ bytes) text x.1
unfolding long_size_at
long_takes o left bytes x fits h =
    let n = number_of o 4 bytes in
    elim (chosen (ltb (length bytes) 4) (Err (Short, left)) (cond (ltb (2 ^ 31 - 2) n) (Err (Range, left)) (Ok (Some n, drop 4 bytes))) (Ok x) h) [
      | inl short ↦ absurd cc
      | inr a ↦ elim (chosen (ltb (2 ^ 31 - 2) n) (Err (Range, left)) (Ok (Some n, drop 4 bytes)) (Ok x) a.1) [
        | inl large ↦ absurd cc
        | inr b ↦
            let enough : 4 ≤ length bytes = ltb-false (length bytes) 4 a.0 in
            let within : n ≤ 2 ^ 31 - 2 = ltb-false (2 ^ 31 - 2) n b.0 in
            let front : word o n ≡ take 4 bytes = number_back o 4 bytes enough fits in
            let parts : 254 ∷ bytes ≡ (254 ∷ word o n) ++ drop 4 bytes = ap (λ (t : List ℕ). 254 ∷ t) (sym (take-append-drop 4 bytes) ∙ ap (λ (t : List ℕ). t ++ drop 4 bytes) (sym front)) in
            subst (λ (y : Option ℕ × List ℕ). (text : List ℕ) × SpellsSize o text y.0 × Takes (254 ∷ bytes) text y.1) (ok_is (Some n, drop 4 bytes) x b.1)
            (254 ∷ word o n, inr (omega arith, refl), record { parts = parts; rest_fits = IsBytes-drop 4 bytes fits })
      ]
    ]

pub size_again : (o : Order) (text rest : List ℕ) (x : Option ℕ) → SpellsSize o text x → size_at o (text ++ rest) ≡ Ok (x, rest)
unfolding size_at
size_again o text rest None h = ap (λ (t : List ℕ). size_at o (t ++ rest)) h
size_again o text rest (Some n) (inl short) =
    let a : eqb n 255 ≡ false = differs n 255 (λ e. omega (arith, e)) in
    let b : eqb n 254 ≡ false = differs n 254 (λ e. omega (arith, e)) in
    ap (λ (t : List ℕ). size_at o (t ++ rest)) short.1 ∙ rw (a, b) refl
size_again o text rest (Some n) (inr long) = ap (λ (t : List ℕ). size_at o (t ++ rest)) long.1 ∙ long_again o _ n rest long.0

pub size_takes : (o : Order) (bytes : List ℕ) (x : Option ℕ × List ℕ) → IsBytes bytes → size_at o bytes ≡ Ok x → (text : List ℕ) × SpellsSize o text x.0 × Takes bytes text x.1
unfolding size_at
size_takes o [] x fits h = absurd cc
size_takes o (b ∷ bytes) x fits h =
    elim (chosen (eqb b 255) (Ok (None, bytes)) (cond (eqb b 254) (long_size_at o (suc (length bytes)) bytes) (Ok (Some b, bytes))) (Ok x) h) [
      | inl null ↦
          let is : b ≡ 255 = eqb-true b 255 null.0 in
          subst (λ (y : Option ℕ × List ℕ). (text : List ℕ) × SpellsSize o text y.0 × Takes (b ∷ bytes) text y.1) (ok_is (None, bytes) x null.1)
          (255 ∷ [], refl, record { parts = ap (λ (n : ℕ). n ∷ bytes) is; rest_fits = IsBytes-rest b bytes fits })
      | inr other ↦ elim (chosen (eqb b 254) (long_size_at o (suc (length bytes)) bytes) (Ok (Some b, bytes)) (Ok x) other.1) [
        | inl long ↦
            let is : b ≡ 254 = eqb-true b 254 long.0 in
            rw is (long_takes o (suc (length bytes)) bytes x (IsBytes-rest b bytes fits) long.1)
        | inr short ↦
            let below : b < 254 = below_254 b (fits 0) (eqb-false b 255 other.0) (eqb-false b 254 short.0) in
            subst (λ (y : Option ℕ × List ℕ). (text : List ℕ) × SpellsSize o text y.0 × Takes (b ∷ bytes) text y.1) (ok_is (Some b, bytes) x short.1)
            (b ∷ [], inl (below, refl), record { parts = refl; rest_fits = IsBytes-rest b bytes fits })
      ]
    ]
