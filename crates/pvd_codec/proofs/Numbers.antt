-- Numbers of one width that were read at once are those that are read one after another.
use Rattle.std.proofs.Common.{◌≡◌, ℕ, suc, ◌+◌, ◌-◌, ◌*◌, ◌<◌, ◌≤◌, false, ltb, List, [], ◌∷◌, ◌++◌, length, get_or, map, drop, Ok, refl, sym, ap, ◌∙◌, arith}
use Rattle.std.proofs.lemmas.Bool.{le-ltb}
use Rattle.std.proofs.lemmas.List.{length-append, length-drop, drop-drop, drop-append-le}
use Rattle.std.proofs.Math.Nat.{add-mul, mul-suc, mul_comm}
use Rattle.byteorder.specs.Numbers.{big_from-append, little_from-append}
use Rattle.pva_wire.specs.declared.order.Order.{Order}
use Rattle.pva_wire.specs.declared.order.Order.TheVariants.{Little, Big}
use Rattle.pva_wire.specs.Reading.{number_of, number_at}
use Rattle.pvd_codec.specs.Reading.{valued, items_at}

number_front : (order : Order) (n : ℕ) (xs ys : List ℕ) → n ≤ length xs → number_of order n (xs ++ ys) ≡ number_of order n xs
number_front Little n xs ys h = little_from-append n xs ys h
number_front Big n xs ys h = big_from-append n xs ys h

nothing : (xs : List ℕ) → length xs ≡ 0 → xs ≡ []
nothing [] h = refl
nothing (x ∷ xs) h = absurd (omega (arith, h))

module _ {X : Type 0} (meaning : ℕ → X) (order : Order) (n : ℕ) where
  one_number : (front rest : List ℕ) → n ≤ length front → valued meaning order n (front ++ rest) ≡ Ok (meaning (number_of order n front), drop n front ++ rest)
  unfolding valued number_at
  one_number front rest h =
      let enough : ltb (length (front ++ rest)) n ≡ false = le-ltb (length (front ++ rest)) n (omega (arith, length-append front rest)) in
      rw (enough, number_front order n front rest h, drop-append-le n front rest h) refl

  drop_drop : (k : ℕ) (xs : List ℕ) → drop (n * k) (drop n xs) ≡ drop (n * suc k) xs
  drop_drop k xs = drop-drop (n * k) n xs ∙ ap (λ m. drop m xs) (let e : n + n * k ≡ n * suc k = omega (arith, mul-suc n k) in e)

  pub numbers_read : (d : X) (xs : List X) (front rest : List ℕ) → length front ≡ n * length xs → ((k : ℕ) → k < length xs → get_or xs k d ≡ meaning (number_of order n (drop (n * k) front)))
      → items_at (valued meaning order n) (length xs) (front ++ rest) ≡ Ok (xs, rest)
  unfolding items_at
  numbers_read d [] front rest size each = rw (nothing front (omega (arith, size))) refl
  numbers_read d (x ∷ xs) front rest size each =
      let size_is : length front ≡ n + n * length xs = omega (arith, size, mul-suc n (length xs)) in
      let enough : n ≤ length front = omega (arith, size_is) in
      let none : n * 0 ≡ 0 = omega arith in
      let first : x ≡ meaning (number_of order n front) = each 0 (omega arith) ∙ ap (λ m. meaning (number_of order n (drop m front))) none in
      let left : length (drop n front) ≡ n * length xs = omega (arith, length-drop n front, size_is) in
      let others = numbers_read d xs (drop n front) rest left (λ k h. each (suc k) (omega (arith, h)) ∙ ap (λ bs. meaning (number_of order n bs)) (sym (drop_drop k front))) in
      rw (one_number front rest enough, others, sym first) refl

-- a number of one byte
byte_is : (order : Order) (b : ℕ) (bytes : List ℕ) → number_of order 1 (b ∷ bytes) ≡ b
byte_is Little b bytes = omega arith
byte_is Big b bytes = omega arith

pub bytes_read : {X : Type 0} (meaning : ℕ → X) (order : Order) (front rest : List ℕ) → items_at (valued meaning order 1) (length front) (front ++ rest) ≡ Ok (map meaning front, rest)
unfolding items_at
bytes_read meaning order [] rest = refl
bytes_read meaning order (b ∷ front) rest =
    let one : valued meaning order 1 (b ∷ (front ++ rest)) ≡ Ok (meaning b, front ++ rest) = one_number meaning order 1 (b ∷ front) rest (omega arith) ∙ ap (λ x. Ok (meaning x, front ++ rest)) (byte_is order b front) in
    rw (one, bytes_read meaning order front rest) refl

module _ {X : Type 0} (meaning : ℕ → X) (order : Order) (n : ℕ) where
  -- what was appended is what the next few bytes spell
  pub numbers_appended : (d : X) (count : ℕ) (bytes front rest : List ℕ) (before after dst : List X) → bytes ≡ front ++ rest → length front ≡ count * n → length dst ≡ count → after ≡ before ++ dst
      → ((k : ℕ) → k < length dst → get_or dst k d ≡ meaning (number_of order n (drop (n * k) front)))
      → (xs : List X) × (after ≡ before ++ xs) × (length xs ≡ count) × (items_at (valued meaning order n) count bytes ≡ Ok (xs, rest))
  numbers_appended d count bytes front rest before after dst parts size kept appended each =
      let wide : length front ≡ n * length dst = size ∙ ap (λ k. k * n) (sym kept) ∙ mul_comm (length dst) n in
      (dst, appended, kept, rw (parts, sym kept) (numbers_read meaning order n d dst front rest wide each))

-- room for the others, where there was room for all
pub room_left : (n few left before after : ℕ) → few ≤ left → left * n ≤ before → few * n + after ≡ before → (left - few) * n ≤ after
room_left n few left before after le enough parts =
    let others : left ≡ few + (left - few) = omega (arith, le) in
    let split : left * n ≡ few * n + (left - few) * n = ap (λ k. k * n) others ∙ add-mul few (left - few) n in
    omega (arith, split, enough, parts)
