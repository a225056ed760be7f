-- What a word spells.
use Rattle.std.specs.Prelude.{ℕ, ◌+◌, ◌^◌, ℤ, pos, negsuc, unsigned_abs, Bool, true, false, not, ◌==◌, ◌&&◌, nat_lt, nat_le, List, [], ◌∷◌, ◌++◌, length, get_or, codes, Option, Some, None, Result, Ok, Err, if◌then◌else◌}
use Rattle.std.specs.List.{list_all}
use Rattle.std.specs.Char.{is_ascii_digit}
use Rattle.std.specs.Str.{bytes_eq}
use Rattle.std.specs.Str.Parse.{without_leading_sign, signed_digits_value}
use Rattle.pvd_type.specs.declared.shape.Scalar.{Scalar}
use Rattle.pvd_type.specs.declared.shape.Scalar.TheVariants as scalar
use Rattle.pvd_value.specs.Data.{Single, boolean, byte, short, int, long, ubyte, ushort, uint, ulong, float, double, text, Many, booleans, bytes, shorts, ints, longs, ubytes, ushorts, uints, ulongs, floats, doubles, texts}
use Rattle.cli_text.specs.declared.fault.Cause.{Cause}
use Rattle.cli_text.specs.declared.fault.Cause.TheVariants as cause
use Rattle.cli_text.specs.Texts.{single_text}

-- a zero in front of other digits
abbrev pub leads_with_zero : List ℕ → Bool
leads_with_zero ds = (get_or ds 0 0 == 48) && nat_lt 1 (length ds)

-- decimal digits, of which there is no zero in front of others
abbrev pub is_plain : List ℕ → Bool
is_plain ds = nat_lt 0 (length ds) && (not (leads_with_zero ds) && list_all is_ascii_digit ds)

-- The number that a word spells: such digits, behind a sign or none.
abbrev pub number_of : List ℕ → Option ℤ
number_of t = if is_plain (without_leading_sign t) then Some (signed_digits_value 10 t) else None

-- Whether a number is one of a signed type, whose numbers reach from -half to half - 1, or of an unsigned one, whose numbers
-- are below the bound.
abbrev pub in_signed : ℕ → ℤ → Bool
in_signed half (pos n) = nat_lt n half
in_signed half (negsuc n) = nat_lt n half

abbrev pub in_unsigned : ℕ → ℤ → Bool
in_unsigned bound (pos n) = nat_lt n bound
in_unsigned bound (negsuc n) = false

-- the number that a word spells, where that is of a type
abbrev pub within : (ℤ → Bool) → Option ℤ → Result ℤ Cause
within inside None = Err cause.BadNumber
within inside (Some z) = if inside z then Ok z else Err cause.OutOfRange

-- a value made of what was read
abbrev pub made : {A B : Type 0} → (A → B) → Result A Cause → Result B Cause
made f (Ok x) = Ok (f x)
made f (Err c) = Err c

-- what is read of what was read before
abbrev pub and_then : {A B E : Type 0} → (A → Result B E) → Result A E → Result B E
and_then f (Ok x) = f x
and_then f (Err e) = Err e

abbrev pub read_signed : ℕ → List ℕ → Result ℤ Cause
read_signed half t = within (in_signed half) (number_of t)

abbrev pub read_unsigned : ℕ → List ℕ → Result ℕ Cause
read_unsigned bound t = made unsigned_abs (within (in_unsigned bound) (number_of t))

abbrev pub read_truth : List ℕ → Result Bool Cause
read_truth t = if bytes_eq t (codes "true") then Ok true else (if bytes_eq t (codes "false") then Ok false else Err cause.BadChoice)

-- A word as a scalar of a type. A string's word is its own text. No word gives a float.
abbrev pub read_scalar : Scalar → List ℕ → Result Single Cause
read_scalar scalar.Bool t = made boolean (read_truth t)
read_scalar scalar.I8 t = made byte (read_signed (2 ^ 7) t)
read_scalar scalar.I16 t = made short (read_signed (2 ^ 15) t)
read_scalar scalar.I32 t = made int (read_signed (2 ^ 31) t)
read_scalar scalar.I64 t = made long (read_signed (2 ^ 63) t)
read_scalar scalar.U8 t = made ubyte (read_unsigned (2 ^ 8) t)
read_scalar scalar.U16 t = made ushort (read_unsigned (2 ^ 16) t)
read_scalar scalar.U32 t = made uint (read_unsigned (2 ^ 32) t)
read_scalar scalar.U64 t = made ulong (read_unsigned (2 ^ 64) t)
read_scalar scalar.F32 t = Err cause.NoField
read_scalar scalar.F64 t = Err cause.NoField
read_scalar scalar.Text t = Ok (text t)

-- a word as a string of at most so many bytes
abbrev pub read_bounded : ℕ → List ℕ → Result Single Cause
read_bounded bound t = if nat_le (length t) bound then Ok (text t) else Err cause.OutOfRange

-- a list with a word as one element more
abbrev pub with_word : Many → List ℕ → Result Many Cause
with_word (booleans xs) t = made (λ b. booleans (xs ++ b ∷ [])) (read_truth t)
with_word (bytes xs) t = made (λ z. bytes (xs ++ z ∷ [])) (read_signed (2 ^ 7) t)
with_word (shorts xs) t = made (λ z. shorts (xs ++ z ∷ [])) (read_signed (2 ^ 15) t)
with_word (ints xs) t = made (λ z. ints (xs ++ z ∷ [])) (read_signed (2 ^ 31) t)
with_word (longs xs) t = made (λ z. longs (xs ++ z ∷ [])) (read_signed (2 ^ 63) t)
with_word (ubytes xs) t = made (λ n. ubytes (xs ++ n ∷ [])) (read_unsigned (2 ^ 8) t)
with_word (ushorts xs) t = made (λ n. ushorts (xs ++ n ∷ [])) (read_unsigned (2 ^ 16) t)
with_word (uints xs) t = made (λ n. uints (xs ++ n ∷ [])) (read_unsigned (2 ^ 32) t)
with_word (ulongs xs) t = made (λ n. ulongs (xs ++ n ∷ [])) (read_unsigned (2 ^ 64) t)
with_word (floats xs) t = Err cause.NoField
with_word (doubles xs) t = Err cause.NoField
with_word (texts xs) t = Ok (texts (xs ++ t ∷ []))

-- the place of the first choice that is the word, counted from k
abbrev pub place_from : ℕ → List ℕ → List (List ℕ) → Option ℕ
place_from k t [] = None
place_from k t (c ∷ cs) = if bytes_eq c t then Some k else place_from (k + 1) t cs

-- A word as an index: the place of the choice that it is, or else the number that it spells. It is an `int`.
abbrev pub read_index : Option ℕ → Option ℤ → Result ℤ Cause
read_index (Some place) number = within (in_signed (2 ^ 31)) (Some (pos place))
read_index None None = Err cause.BadChoice
read_index None (Some z) = within (in_signed (2 ^ 31)) (Some z)

abbrev pub read_choice : List (List ℕ) → List ℕ → Result ℤ Cause
read_choice choices t = read_index (place_from 0 t choices) (number_of t)

-- Which scalars a word can give: all but floats, within their ranges.
abbrev pub is_givable : Single → Bool
is_givable (boolean b) = true
is_givable (byte z) = in_signed (2 ^ 7) z
is_givable (short z) = in_signed (2 ^ 15) z
is_givable (int z) = in_signed (2 ^ 31) z
is_givable (long z) = in_signed (2 ^ 63) z
is_givable (ubyte n) = nat_lt n (2 ^ 8)
is_givable (ushort n) = nat_lt n (2 ^ 16)
is_givable (uint n) = nat_lt n (2 ^ 32)
is_givable (ulong n) = nat_lt n (2 ^ 64)
is_givable (float n) = false
is_givable (double n) = false
is_givable (text t) = true

-- The word that gives a scalar: its printed text, but for a string, whose word is the string itself.
abbrev pub word_of : Single → List ℕ
word_of (text t) = t
word_of x = single_text x
