-- What is read as a number.
use Rattle.std.proofs.Common.{◌≡◌, ◌∙◌, ℕ, ◌^◌, ℤ, pos, negsuc, Bool, true, false, cond, ◌&&◌, not, List, [], ◌∷◌, length, Option, Some, None, Ok, Err, refl, sym, ap}
use lib.Signed.{mag}
use mir.Syntax.{Width}
use mir.Val.{hbits}
use Rattle.std.specs.List.{list_all}
use Rattle.std.specs.Char.{is_ascii_digit}
use Rattle.std.specs.Str.{all_ascii_digits}
use Rattle.std.specs.Str.Parse.{IsNumeral, digits_value, signed_digits_value, without_leading_sign, ParsesSigned}
use Rattle.std.proofs.lemmas.Bool.{and_parts, ltb-true}
use Rattle.std.proofs.Math.Dec.{ltb}
use Rattle.std.proofs.lemmas.Str.Parse.{IsNumeralModel, numerals_by_value, tells_all_ascii_digits}
use Rattle.cli_text.specs.declared.fault.Cause.TheVariants.{OutOfRange}
use Rattle.cli_text.specs.Words.{leads_with_zero, is_plain, number_of, in_signed, within, read_signed}

pub own : IsNumeralModel (λ ds. all_ascii_digits ds ≡ true) (digits_value 10)
own = numerals_by_value _ tells_all_ascii_digits

pub same_digits : (ds : List ℕ) → list_all is_ascii_digit ds ≡ all_ascii_digits ds
same_digits [] = refl
same_digits (c ∷ cs) = ap (λ (b : Bool). is_ascii_digit c && b) (same_digits cs)

not_true : (b : Bool) → (b ≡ true → ⊥) → b ≡ false
not_true true h = absurd (h refl)
not_true false h = refl

-- a plain number is a numeral
is_numeral : (ds : List ℕ) → is_plain ds ≡ true → IsNumeral 10 ds
is_numeral ds h =
    let a = and_parts (ltb 0 (length ds)) (not (leads_with_zero ds) && list_all is_ascii_digit ds) h in
    let b = and_parts (not (leads_with_zero ds)) (list_all is_ascii_digit ds) a.1 in
    (ltb-true 0 (length ds) a.0, own.to ds (sym (same_digits ds) ∙ b.1))

in_signed_is : (half : ℕ) (z : ℤ) → in_signed half z ≡ ltb (mag z) half
in_signed_is half (pos n) = refl
in_signed_is half (negsuc n) = refl

number_some : (t : List ℕ) → is_plain (without_leading_sign t) ≡ true → number_of t ≡ Some (signed_digits_value 10 t)
number_some t h = ap (λ (b : Bool). cond b (Some (signed_digits_value 10 t)) None) h

-- a number that a signed type can't hold is past its range
pub signed_err : {E : Type 0} (w : Width) (t : List ℕ) (e : E) → is_plain (without_leading_sign t) ≡ true → ParsesSigned w 10 t (Err e) → read_signed (2 ^ hbits w) t ≡ Err OutOfRange
signed_err w t e plain h =
    let z = signed_digits_value 10 t in
    let outside : in_signed (2 ^ hbits w) z ≡ false =
    not_true (in_signed (2 ^ hbits w) z) (λ inside. h (is_numeral (without_leading_sign t) plain, record { sfits = ltb-true (mag z) (2 ^ hbits w) (sym (in_signed_is (2 ^ hbits w) z) ∙ inside) })) in
    ap (λ (o : Option ℤ). within (in_signed (2 ^ hbits w)) o) (number_some t plain) ∙ ap (λ (b : Bool). cond b (Ok z) (Err OutOfRange)) outside
