-- What is read as a number is what is written of one.
use Rattle.std.proofs.Common.{◌≡◌, ◌≢◌, ℕ, zero, suc, ◌<◌, ◌≤◌, ◌^◌, ℤ, pos, negsuc, neg_ℤ, true, eqb, leb, ◌&&◌, ◌||◌, inl, inr, List, [], ◌∷◌, length, get_or, MatchOption, Result, Ok, Err, sym, ◌∙◌, ap, subst, arith}
use Rattle.std.specs.Int.{w32}
use Rattle.std.specs.Int.RustNames.{FitsSigned}
use Rattle.std.specs.Result.{result_ok}
use Rattle.std.specs.Fmt.{decimal, signed_decimal}
use Rattle.std.specs.Str.Parse.{AllDigits, digits_value, ParsesSigned, ParsesUnsigned}
use Rattle.std.proofs.lemmas.Bool.{and_parts, and_from, or_cases, or_left, or_right, eqb-true, leb-true, le-leb}
use Rattle.std.proofs.lemmas.Fmt.{decimal_digit, decimal_nonempty, decimal-digits_value, decimal_is_IsNumeral, first_decimal, parse-decimal, parse-signed_decimal}
use Rattle.std.proofs.lemmas.Str.Parse.{IsNumeralModel, numerals_by_value, tells_digits, digit_at, parse_plain, parse_signed_minus, parse_signed_plain}
use Rattle.prog_source.specs.Words.{IsNumber, is_digit_at, is_plain, is_plain_count}

own : IsNumeralModel (AllDigits 10) (digits_value 10)
own = numerals_by_value _ tells_digits

digit_bounds : (i : ℕ) (text : List ℕ) → is_digit_at i text ≡ true → (49 ≤ get_or text i 0) × (get_or text i 0 ≤ 57)
digit_bounds i text h =
    let parts = and_parts (leb 49 (get_or text i 0)) (leb (get_or text i 0) 57) h in
    (leb-true 49 (get_or text i 0) parts.0, leb-true (get_or text i 0) 57 parts.1)

bounded_digit : (i : ℕ) (text : List ℕ) → 49 ≤ get_or text i 0 → get_or text i 0 ≤ 57 → is_digit_at i text ≡ true
bounded_digit i text low high = and_from (leb 49 (get_or text i 0)) (leb (get_or text i 0) 57) (le-leb 49 (get_or text i 0) low) (le-leb (get_or text i 0) 57 high)

-- without a minus
plain_number : (E : Type 0) (text : List ℕ) (z : ℤ) → ParsesSigned {E = E} w32 10 text (Ok z) → get_or text 0 0 ≢ 43 → get_or text 0 0 ≢ 45 → (get_or text 0 0 ≡ 48 → length text ≡ 1) → text ≡ signed_decimal z
plain_number E text z read no_plus no_minus lead =
    let found = parse_signed_plain own {E = E} w32 text (Ok z) read no_plus no_minus in
    sym (ap signed_decimal found.1 ∙ decimal-digits_value own text found.0.0 found.0.1 lead (omega (arith, found.0.2)))

-- a minus, and then a number above 0
minus_number : (n : ℕ) (digits : List ℕ) → decimal n ≡ digits → 49 ≤ get_or digits 0 0 → signed_decimal (neg_ℤ (pos n)) ≡ 45 ∷ digits
minus_number zero digits is low =
    let zero_is : get_or digits 0 0 ≡ 48 = ap (λ (l : List ℕ). get_or l 0 0) (sym is ∙ decimal_digit 0 (omega arith)) in
    absurd (omega arith)
minus_number (suc n) digits is low = ap (λ (l : List ℕ). 45 ∷ l) is

with_minus : (E : Type 0) (text : List ℕ) (z : ℤ) → ParsesSigned {E = E} w32 10 text (Ok z) → get_or text 0 0 ≡ 45 → 49 ≤ get_or text 1 0 → text ≡ signed_decimal z
with_minus E [] z read minus low = absurd (omega arith)
with_minus E (c ∷ digits) z read minus low =
    let found = parse_signed_minus own {E = E} w32 (c ∷ digits) (Ok z) read minus in
    let is = decimal-digits_value own digits found.0.0 found.0.1 (λ zero_first. absurd (omega arith)) (omega (arith, found.0.2)) in
    ap (λ (b : ℕ). b ∷ digits) minus ∙ sym (ap signed_decimal found.1 ∙ minus_number (digits_value 10 digits) digits is low)

spelled : (E : Type 0) (text : List ℕ) (z : ℤ) → ParsesSigned {E = E} w32 10 text (Ok z) → is_plain text ≡ true → text ≡ signed_decimal z
spelled E text z read plain =
    elim (or_cases (is_digit_at 0 text || (eqb (get_or text 0 0) 45 && is_digit_at 1 text)) (eqb (get_or text 0 0) 48 && eqb (length text) 1) plain) [
      | inl sign ↦ elim (or_cases (is_digit_at 0 text) (eqb (get_or text 0 0) 45 && is_digit_at 1 text) sign) [
        | inl first ↦ let b = digit_bounds 0 text first in plain_number E text z read (λ e. omega (arith, b.0, e)) (λ e. omega (arith, b.0, e)) (λ e. absurd (omega (arith, b.0, e)))
        | inr minus ↦
            let parts = and_parts (eqb (get_or text 0 0) 45) (is_digit_at 1 text) minus in
            with_minus E text z read (eqb-true (get_or text 0 0) 45 parts.0) (digit_bounds 1 text parts.1).0
      ]
      | inr alone ↦
          let parts = and_parts (eqb (get_or text 0 0) 48) (eqb (length text) 1) alone in
          let is : get_or text 0 0 ≡ 48 = eqb-true (get_or text 0 0) 48 parts.0 in
          plain_number E text z read (λ e. omega (arith, is, e)) (λ e. omega (arith, is, e)) (λ _. eqb-true (length text) 1 parts.1)
    ]

-- what was read, of a text that begins as a number does
was_read : (E : Type 0) (text : List ℕ) (z : ℤ) → ParsesSigned {E = E} w32 10 text (Ok z) → is_plain text ≡ true → IsNumber text z
was_read E text z read plain = record { written = spelled E text z read plain; fits = subst (FitsSigned w32) (sym read.1) read.0.1 }

-- the first digit of a number above 0
first_digit : (n : ℕ) → 0 < n → n < 2 ^ 64 → is_digit_at 0 (decimal n) ≡ true
first_digit n some small =
    let last : get_or (decimal n) 0 0 ≤ 57 = (digit_at (decimal n) 0 (decimal_is_IsNumeral n small).0.1 (decimal_nonempty n small)).1 in
    bounded_digit 0 (decimal n) (omega (arith, first_decimal n some small)) last

plain_decimal : (n : ℕ) → n < 2 ^ 64 → is_plain (decimal n) ≡ true
plain_decimal zero small = ap is_plain (decimal_digit 0 (omega arith))
plain_decimal (suc n) small =
    let text : List ℕ = decimal (suc n) in
    let first = or_left (is_digit_at 0 text) (eqb (get_or text 0 0) 45 && is_digit_at 1 text) (first_digit (suc n) (omega arith) small) in
    or_left (is_digit_at 0 text || (eqb (get_or text 0 0) 45 && is_digit_at 1 text)) (eqb (get_or text 0 0) 48 && eqb (length text) 1) first

plain_signed : (z : ℤ) → FitsSigned w32 z → is_plain (signed_decimal z) ≡ true
plain_signed (pos n) fits = plain_decimal n (omega (arith, fits.sfits))
plain_signed (negsuc n) fits =
    let text : List ℕ = 45 ∷ decimal (suc n) in
    let second = or_right (is_digit_at 0 text) (is_digit_at 1 text) (first_digit (suc n) (omega arith) (omega (arith, fits.sfits))) in
    or_left (is_digit_at 0 text || is_digit_at 1 text) (eqb 45 48 && eqb (length text) 1) second

-- each number begins so, and is read
is_read : (E : Type 0) (text : List ℕ) (r : Result ℤ E) (z : ℤ) → ParsesSigned w32 10 text r → IsNumber text z → r ≡ Ok z
is_read E text r z read is = parse-signed_decimal w32 z text r is.fits (omega (arith, is.fits.sfits)) is.written read

pub begins_plain : (text : List ℕ) (z : ℤ) → IsNumber text z → is_plain text ≡ true
begins_plain text z is = ap is_plain is.written ∙ plain_signed z is.fits

pub reads : (E : Type 0) (text : List ℕ) (r : Result ℤ E) → ParsesSigned w32 10 text r → is_plain text ≡ true → MatchOption (result_ok r) ((z : ℤ) → ¬ (IsNumber text z)) (IsNumber text)
reads E text (Ok z) read plain = was_read E text z read plain
reads E text (Err e) read plain = λ z is. let same : Err e ≡ Ok z = is_read E text (Err e) z read is in cc

-- Numbers without a sign.

count_lead : (text : List ℕ) → is_plain_count text ≡ true → (get_or text 0 0 ≢ 43) × (get_or text 0 0 ≡ 48 → length text ≡ 1)
count_lead text plain =
    elim (or_cases (is_digit_at 0 text) (eqb (get_or text 0 0) 48 && eqb (length text) 1) plain) [
      | inl first ↦ let b = digit_bounds 0 text first in ((λ e. omega (arith, b.0, e)), (λ e. absurd (omega (arith, b.0, e))))
      | inr alone ↦
          let parts = and_parts (eqb (get_or text 0 0) 48) (eqb (length text) 1) alone in
          let is : get_or text 0 0 ≡ 48 = eqb-true (get_or text 0 0) 48 parts.0 in
          ((λ e. omega (arith, is, e)), (λ _. eqb-true (length text) 1 parts.1))
    ]

count_read : (E : Type 0) (text : List ℕ) (n : ℕ) → ParsesUnsigned {E = E} 64 10 text (Ok n) → is_plain_count text ≡ true → text ≡ decimal n
count_read E text n read plain =
    let lead = count_lead text plain in
    let found = parse_plain own {E = E} 64 text (Ok n) read lead.0 in
    sym (ap decimal found.1 ∙ decimal-digits_value own text found.0.0 found.0.1 lead.1 found.0.2)

pub begins_count : (text : List ℕ) (n : ℕ) → n < 2 ^ 64 → text ≡ decimal n → is_plain_count text ≡ true
begins_count text zero small is = ap is_plain_count (is ∙ decimal_digit 0 (omega arith))
begins_count text (suc n) small is =
    let made : List ℕ = decimal (suc n) in
    ap is_plain_count is ∙ or_left (is_digit_at 0 made) (eqb (get_or made 0 0) 48 && eqb (length made) 1) (first_digit (suc n) (omega arith) small)

pub counts : (E : Type 0) (text : List ℕ) (r : Result ℕ E) → ParsesUnsigned 64 10 text r → is_plain_count text ≡ true → MatchOption (result_ok r) ((n : ℕ) → n < 2 ^ 64 → text ≢ decimal n) (λ n. text ≡ decimal n)
counts E text (Ok n) read plain = count_read E text n read plain
counts E text (Err e) read plain = λ n small is. let same : Err e ≡ Ok n = parse-decimal 64 n text (Err e) small small is read in cc
