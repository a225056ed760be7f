-- Digits, one after another, as a number that is cut at 64.
use Rattle.std.proofs.Common.{◌≡◌, ◌∙◌, ℕ, ◌+◌, ◌*◌, ◌-◌, ◌<◌, ◌&&◌, min, Bool, true, false, cond, List, length, take, get_or, Some, None, ltb, refl, sym, ap, arith}
use Rattle.std.specs.List.{list_all}
use Rattle.std.specs.Char.{is_ascii_digit, IsAsciiDigit}
use Rattle.std.specs.Str.Parse.{digits_value}
use Rattle.std.proofs.lemmas.Int.Digits.{digits_value_more}
use Rattle.std.proofs.lemmas.List.Folds.{list_all_more, list_all_at}
use Rattle.std.proofs.lemmas.Str.{digit_value_digit}
use Rattle.pvd_request.specs.Options.{are_digits}

and_false : (b : Bool) → (b && false) ≡ false
and_false true = refl
and_false false = refl

-- no number is written where one byte is no digit
pub no_number : (ds : List ℕ) (i : ℕ) → i < length ds → is_ascii_digit (get_or ds i 0) ≡ false
    → None ≡ cond (are_digits ds) (Some (min 64 (digits_value 10 ds))) None
no_number ds i within other =
    let all = list_all_at is_ascii_digit ds i 0 within other in
    sym (ap (λ b. cond b (Some (min 64 (digits_value 10 ds))) None) (ap (λ b. ltb 0 (length ds) && b) all ∙ and_false (ltb 0 (length ds))))

-- one digit more
pub one_digit : (ds : List ℕ) (i number k x : ℕ) → i < length ds → IsAsciiDigit (get_or ds i 0)
    → number ≡ min 64 (digits_value 10 (take i ds)) → k ≡ get_or ds i 0 - 48 → x ≡ min (number * 10 + k) 64
    → x ≡ min 64 (digits_value 10 (take (i + 1) ds))
one_digit ds i number k x within digit e f g =
    let more = digits_value_more 10 ds i within in
    let value = digit_value_digit (get_or ds i 0) digit in
    omega (arith, more, value, e, f, g)

pub all_digits : (ds : List ℕ) (i : ℕ) → i < length ds → list_all is_ascii_digit (take i ds) ≡ true → is_ascii_digit (get_or ds i 0) ≡ true
    → list_all is_ascii_digit (take (i + 1) ds) ≡ true
all_digits ds i within before here = list_all_more is_ascii_digit ds i 0 within ∙ (λ j. before j && here j)
