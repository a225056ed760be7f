-- What is printed of a scalar and given as a word is read as that scalar.
use Rattle.std.proofs.Common.{◌≡◌, ◌≢◌, ◌∙◌, ℕ, zero, suc, ◌<◌, ◌≤◌, ◌^◌, ℤ, pos, negsuc, neg_ℤ, Bool, true, false, cond, ◌&&◌, not, List, ◌∷◌, length, get_or, drop, Option, Some, None, Ok, Err, refl, ap, arith}
use Rattle.std.specs.Prelude.{unsigned_abs, nat_lt}
use Rattle.std.proofs.lemmas.Bool.{lt-ltb, ltb-true, ne_eqb}
use Rattle.std.specs.Fmt.{decimal, signed_decimal}
use Rattle.std.specs.List.{list_all}
use Rattle.std.specs.Char.{is_ascii_digit}
use Rattle.std.specs.Str.Parse.{digits_value, signed_digits_value, starts_with_minus, without_leading_plus, without_leading_sign}
use Rattle.std.proofs.lemmas.Str.Parse.{without_leading_plus_none}
use Rattle.std.proofs.lemmas.Fmt.{digits_decimal, digits_value-decimal, decimal_nonempty, first_decimal, decimal_digit}
use Rattle.pvd_value.specs.Data.{Single, boolean, byte, short, int, long, ubyte, ushort, uint, ulong, float, double, text}
use Rattle.pvd_value.specs.Fits.{scalar_of}
use Rattle.cli_text.specs.declared.fault.Cause.TheVariants.{OutOfRange}
use Rattle.cli_text.specs.Words.{leads_with_zero, is_plain, number_of, in_signed, in_unsigned, within, made, read_signed, read_unsigned, read_scalar, is_givable, word_of}
use Rattle.cli_text.proofs.NumberWords.{own, same_digits}

-- the first byte of a number is a digit
first_digit : (n : ℕ) → n < 2 ^ 64 → 48 ≤ get_or (decimal n) 0 0
first_digit zero h = rw (decimal_digit 0 (omega arith)) (omega arith)
first_digit (suc n) h = let more : 48 < get_or (decimal (suc n)) 0 0 = first_decimal (suc n) (omega arith) h in omega (arith, more)

-- there is no zero in front of others
no_zero : (n : ℕ) → n < 2 ^ 64 → leads_with_zero (decimal n) ≡ false
no_zero zero h = ap leads_with_zero (decimal_digit 0 (omega arith))
no_zero (suc n) h =
    let more : 48 < get_or (decimal (suc n)) 0 0 = first_decimal (suc n) (omega arith) h in
    let other : get_or (decimal (suc n)) 0 0 ≢ 48 = λ e. absurd (omega (arith, more, e)) in
    ap (λ (b : Bool). b && nat_lt 1 (length (decimal (suc n)))) (ne_eqb (get_or (decimal (suc n)) 0 0) 48 other)

all_true : (a b c : Bool) → a ≡ true → b ≡ false → c ≡ true → (a && (not b && c)) ≡ true
all_true a b c p q r = λ i. p i && (not (q i) && r i)

plain_decimal : (n : ℕ) → n < 2 ^ 64 → is_plain (decimal n) ≡ true
plain_decimal n h =
    all_true (nat_lt 0 (length (decimal n))) (leads_with_zero (decimal n)) (list_all is_ascii_digit (decimal n))
    (lt-ltb 0 (length (decimal n)) (decimal_nonempty n h)) (no_zero n h) (same_digits (decimal n) ∙ digits_decimal own n h)

module _ (n : ℕ) (h : n < 2 ^ 64) where
  no_minus : starts_with_minus (decimal n) ≡ false
  no_minus = let first = first_digit n h in ne_eqb (get_or (decimal n) 0 0) 45 (λ e. absurd (omega (arith, first, e)))

  no_sign : without_leading_sign (decimal n) ≡ decimal n
  no_sign =
      let first = first_digit n h in
      ap (λ (b : Bool). cond b (drop 1 (decimal n)) (without_leading_plus (decimal n))) no_minus
      ∙ without_leading_plus_none (decimal n) (λ e. absurd (omega (arith, first, e)))

  value_decimal : signed_digits_value 10 (decimal n) ≡ pos n
  value_decimal =
      ap (λ (b : Bool). cond b (neg_ℤ (pos (digits_value 10 (without_leading_sign (decimal n))))) (pos (digits_value 10 (without_leading_sign (decimal n))))) no_minus
      ∙ ap (λ (ds : List ℕ). pos (digits_value 10 ds)) no_sign
      ∙ ap pos (digits_value-decimal own n h)

  number_of_decimal : number_of (decimal n) ≡ Some (pos n)
  number_of_decimal =
      ap (λ (b : Bool). cond b (Some (signed_digits_value 10 (decimal n))) None) (ap is_plain no_sign ∙ plain_decimal n h)
      ∙ ap Some value_decimal

number_of_negative : (n : ℕ) → suc n < 2 ^ 64 → number_of (45 ∷ decimal (suc n)) ≡ Some (negsuc n)
number_of_negative n h =
    ap (λ (b : Bool). cond b (Some (signed_digits_value 10 (45 ∷ decimal (suc n)))) None) (plain_decimal (suc n) h)
    ∙ ap (λ (k : ℕ). Some (neg_ℤ (pos k))) (digits_value-decimal own (suc n) h)

number_of_signed : (half : ℕ) (z : ℤ) → half ≤ 2 ^ 63 → in_signed half z ≡ true → number_of (signed_decimal z) ≡ Some z
number_of_signed half (pos n) few h = let less : n < half = ltb-true n half h in number_of_decimal n (omega (arith, less, few))
number_of_signed half (negsuc n) few h = let less : n < half = ltb-true n half h in number_of_negative n (omega (arith, less, few))

signed_back : (half : ℕ) (z : ℤ) → half ≤ 2 ^ 63 → in_signed half z ≡ true → read_signed half (signed_decimal z) ≡ Ok z
signed_back half z few h =
    ap (λ (o : Option ℤ). within (in_signed half) o) (number_of_signed half z few h)
    ∙ ap (λ (b : Bool). cond b (Ok z) (Err OutOfRange)) h

unsigned_back : (bound n : ℕ) → bound ≤ 2 ^ 64 → nat_lt n bound ≡ true → read_unsigned bound (decimal n) ≡ Ok n
unsigned_back bound n few h =
    let less : n < bound = ltb-true n bound h in
    ap (λ (o : Option ℤ). made unsigned_abs (within (in_unsigned bound) o)) (number_of_decimal n (omega (arith, less, few)))
    ∙ ap (λ (b : Bool). made unsigned_abs (cond b (Ok (pos n)) (Err OutOfRange))) h

pub read_back : (x : Single) → is_givable x ≡ true → read_scalar (scalar_of x) (word_of x) ≡ Ok x
read_back (boolean true) h = refl
read_back (boolean false) h = refl
read_back (byte z) h = ap (made byte) (signed_back (2 ^ 7) z (omega arith) h)
read_back (short z) h = ap (made short) (signed_back (2 ^ 15) z (omega arith) h)
read_back (int z) h = ap (made int) (signed_back (2 ^ 31) z (omega arith) h)
read_back (long z) h = ap (made long) (signed_back (2 ^ 63) z (omega arith) h)
read_back (ubyte n) h = ap (made ubyte) (unsigned_back (2 ^ 8) n (omega arith) h)
read_back (ushort n) h = ap (made ushort) (unsigned_back (2 ^ 16) n (omega arith) h)
read_back (uint n) h = ap (made uint) (unsigned_back (2 ^ 32) n (omega arith) h)
read_back (ulong n) h = ap (made ulong) (unsigned_back (2 ^ 64) n (omega arith) h)
read_back (float n) h = absurd cc
read_back (double n) h = absurd cc
read_back (text t) h = refl
