-- A number is read as it is spelled, and what is read is spelled so, at any number of bytes.
use Rattle.std.proofs.Common.{◌≡◌, ℕ, zero, suc, ◌+◌, ◌-◌, ◌*◌, ◌/◌, ◌%◌, ◌^◌, ◌<◌, ◌≤◌, List, [], ◌∷◌, ◌++◌, length, take, drop, ltb, false, Ok, Err, refl, sym, ap, subst, ◌∙◌, arith, inl, inr}
use Rattle.std.proofs.Math.Nat.{div-div-eq-div-mul, div-one, one-le-pow, mul-add-div_right, mul-add-mod_self_right, pow-suc, pow-succ', mul_assoc}
use Rattle.std.proofs.lemmas.Nat.{pow-add, div-mul-add}
use Rattle.std.proofs.lemmas.Bool.{le-ltb, ltb-false}
use Rattle.std.proofs.lemmas.List.{drop_at, take-append-drop, length-append}
use Rattle.std.specs.Int.{byte_at, bytes_high_first, bytes_low_first}
use Rattle.byteorder.specs.Endian.{little_from, big_from}
use Rattle.byteorder.specs.Numbers.{little_from-cons, big_from-cons, little_from-lt, big_from-lt, length-bytes_low_first, length-bytes_high_first, little_number-reads_back, big_number-reads_back}
use Rattle.pva_wire.specs.declared.order.Order.{Order}
use Rattle.pva_wire.specs.declared.order.Order.TheVariants.{Little, Big}
use Rattle.pva_wire.specs.declared.fault.Cause.TheVariants.{Short}
use Rattle.pva_wire.specs.Spelling.{IsBytes, number_bytes, SpellsNumber}
use Rattle.pva_wire.specs.Reading.{number_of, number_at}
use Rattle.pva_wire.proofs.Takes.{Takes, IsBytes-drop, IsBytes-rest, chosen, ok_is}

pub number_len : (o : Order) (n x : ℕ) → length (number_bytes o n x) ≡ n
number_len Little n x = length-bytes_low_first 0 n x
number_len Big n x = length-bytes_high_first n x

pub number_again : (o : Order) (n x : ℕ) (rest : List ℕ) → x < 256 ^ n → number_of o n (number_bytes o n x ++ rest) ≡ x
number_again Little n x rest h = little_number-reads_back n x rest h
number_again Big n x rest h = big_number-reads_back n x rest h

pub number_small : (o : Order) (n : ℕ) (bytes : List ℕ) → IsBytes bytes → number_of o n bytes < 256 ^ n
number_small Little n bytes fits = little_from-lt 0 n bytes fits
number_small Big n bytes fits = big_from-lt 0 n bytes fits

-- a byte of a number, by its place
byte_at-pow : (k x : ℕ) → byte_at k x ≡ x / 256 ^ k % 256
byte_at-pow zero x = ap (λ (y : ℕ). y % 256) (sym (div-one x))
byte_at-pow (suc k) x = refl

pow_pos256 : (n : ℕ) → zero < 256 ^ n
pow_pos256 n = let h = one-le-pow n 256 (omega arith) in omega arith

-- the bytes above the lowest
byte_shift : (i b x : ℕ) → b < 256 → byte_at (suc i) (b + 256 * x) ≡ byte_at i x
byte_shift i b x h =
    let high : (b + 256 * x) / 256 ≡ x = omega arith in
    let parts : (b + 256 * x) / 256 ^ suc i ≡ x / 256 ^ i =
    ap (λ (p : ℕ). (b + 256 * x) / p) (pow-succ' 256 i) ∙ sym (div-div-eq-div-mul (b + 256 * x) 256 (256 ^ i)) ∙ ap (λ (y : ℕ). y / 256 ^ i) high in
    ap (λ (y : ℕ). y % 256) parts ∙ sym (byte_at-pow i x)

low_shift : (i n b x : ℕ) → b < 256 → bytes_low_first (suc i) n (b + 256 * x) ≡ bytes_low_first i n x
low_shift i zero b x h = refl
low_shift i (suc n) b x h = rw (byte_shift i b x h, low_shift (suc i) n b x h) refl

little_back : (n : ℕ) (bytes : List ℕ) → n ≤ length bytes → IsBytes bytes → bytes_low_first 0 n (little_from 0 n bytes) ≡ take n bytes
little_back zero bytes h fits = refl
little_back (suc n) [] h fits = absurd (omega arith)
little_back (suc n) (b ∷ bytes) h fits =
    let small : b < 256 = fits 0 in
    let rest = little_back n bytes (omega arith) (IsBytes-rest b bytes fits) in
    let first : (b + 256 * little_from 0 n bytes) % 256 ≡ b = omega arith in
    rw (little_from-cons 0 n b bytes, first, low_shift 0 n b (little_from 0 n bytes) small, rest) refl

-- the bytes below the highest
byte_over : (m n b x : ℕ) → m < n → byte_at m (b * 256 ^ n + x) ≡ byte_at m x
byte_over m n b x h =
    let d : ℕ = n - suc m in
    let split : n ≡ suc d + m = omega arith in
    let power : b * 256 ^ n ≡ b * 256 ^ d * 256 * 256 ^ m =
    ap (λ (k : ℕ). b * 256 ^ k) split ∙ ap (λ (p : ℕ). b * p) (pow-add 256 (suc d) m ∙ ap (λ (p : ℕ). p * 256 ^ m) (pow-suc 256 d))
    ∙ sym (mul_assoc b (256 ^ d * 256) (256 ^ m)) ∙ ap (λ (p : ℕ). p * 256 ^ m) (sym (mul_assoc b (256 ^ d) 256)) in
    byte_at-pow m (b * 256 ^ n + x)
    ∙ ap (λ (y : ℕ). (y + x) / 256 ^ m % 256) power
    ∙ ap (λ (y : ℕ). y % 256) (mul-add-div_right (pow_pos256 m) (b * 256 ^ d * 256) x)
    ∙ mul-add-mod_self_right (b * 256 ^ d) 256 (x / 256 ^ m)
    ∙ sym (byte_at-pow m x)

high_over : (m n b x : ℕ) → m ≤ n → bytes_high_first m (b * 256 ^ n + x) ≡ bytes_high_first m x
high_over zero n b x h = refl
high_over (suc m) n b x h = rw (byte_over m n b x (omega arith), high_over m n b x (omega arith)) refl

big_back : (n : ℕ) (bytes : List ℕ) → n ≤ length bytes → IsBytes bytes → bytes_high_first n (big_from 0 n bytes) ≡ take n bytes
big_back zero bytes h fits = refl
big_back (suc n) [] h fits = absurd (omega arith)
big_back (suc n) (b ∷ bytes) h fits =
    let small : b < 256 = fits 0 in
    let fits_rest = IsBytes-rest b bytes fits in
    let x = big_from 0 n bytes in
    let below : x < 256 ^ n = big_from-lt 0 n bytes fits_rest in
    let high : byte_at n (b * 256 ^ n + x) ≡ b =
    byte_at-pow n (b * 256 ^ n + x) ∙ ap (λ (y : ℕ). y % 256) (div-mul-add b (256 ^ n) x below) ∙ omega arith in
    let rest = big_back n bytes (omega arith) fits_rest in
    rw (big_from-cons 0 n b bytes, high, high_over n n b x (omega arith), rest) refl

pub number_back : (o : Order) (n : ℕ) (bytes : List ℕ) → n ≤ length bytes → IsBytes bytes → number_bytes o n (number_of o n bytes) ≡ take n bytes
number_back Little n bytes h fits = little_back n bytes h fits
number_back Big n bytes h fits = big_back n bytes h fits

pub number_at_again : (o : Order) (n : ℕ) (text rest : List ℕ) (x : ℕ) → SpellsNumber o n text x → number_at o n (text ++ rest) ≡ Ok (x, rest)
unfolding number_at
number_at_again o n text rest x spelled =
    let bytes = number_bytes o n x in
    let enough : ltb (length (bytes ++ rest)) n ≡ false = le-ltb (length (bytes ++ rest)) n (omega (arith, length-append bytes rest, number_len o n x)) in
    let again = number_again o n x rest spelled.0 in
    let back : drop n (bytes ++ rest) ≡ rest = drop_at bytes rest n (number_len o n x) in
    ap (λ (t : List ℕ). number_at o n (t ++ rest)) spelled.1 ∙ rw (enough, again, back) refl

pub number_takes : (o : Order) (n : ℕ) (bytes : List ℕ) (x : ℕ × List ℕ) → IsBytes bytes → number_at o n bytes ≡ Ok x → (text : List ℕ) × SpellsNumber o n text x.0 × Takes bytes text x.1
unfolding number_at
number_takes o n bytes x fits h =
    elim (chosen (ltb (length bytes) n) (Err (Short, length bytes)) (Ok (number_of o n bytes, drop n bytes)) (Ok x) h) [
      | inl short ↦ absurd cc
      | inr a ↦
          let enough : n ≤ length bytes = ltb-false (length bytes) n a.0 in
          let front = number_back o n bytes enough fits in
          subst (λ (y : ℕ × List ℕ). (text : List ℕ) × SpellsNumber o n text y.0 × Takes bytes text y.1) (ok_is (number_of o n bytes, drop n bytes) x a.1) (
            number_bytes o n (number_of o n bytes),
            (number_small o n bytes fits, refl),
            record {
              parts = sym (take-append-drop n bytes) ∙ ap (λ (t : List ℕ). t ++ drop n bytes) (sym front);
              rest_fits = IsBytes-drop n bytes fits;
            },
          )
    ]
