-- The text of a value, as a client prints it.
use Rattle.std.specs.Prelude.{ℕ, zero, suc, ◌/◌, ◌%◌, Bool, true, false, ◌==◌, ◌||◌, nat_lt, List, [], ◌∷◌, ◌++◌, map, codes, if◌then◌else◌}
use Rattle.std.specs.List.{flat_map}
use Rattle.std.specs.Fmt.{decimal, signed_decimal, digit_glyph}
use Rattle.std.specs.Int.{w32, w64, to_be_bytes}
use Rattle.pvd_type.specs.Tree.{Tree, leaf, node, Fields, no_fields, field}
use Rattle.pvd_value.specs.Data.{Data, Single, boolean, byte, short, int, long, ubyte, ushort, uint, ulong, float, double, text, Many, booleans, bytes, shorts, ints, longs, ubytes, ushorts, uints, ulongs, floats, doubles, texts, single, many, members, unset, selected, empty, carried, structs, unions, variants, Row, end, more, gap}

-- a byte as two lower-case hexadecimal digits
abbrev pub hex_pair : ℕ → List ℕ
hex_pair b = digit_glyph false (b / 16) ∷ digit_glyph false (b % 16) ∷ []

-- A byte of a text between quotes: `\"`, `\\`, `\n` and `\t`, and `\x` and two digits for each other byte below 32 and for 127.
abbrev pub escaped : ℕ → List ℕ
escaped b =
    if b == 34 then 92 ∷ 34 ∷ [] else (
    if b == 92 then 92 ∷ 92 ∷ [] else (
    if b == 10 then 92 ∷ 110 ∷ [] else (
    if b == 9 then 92 ∷ 116 ∷ [] else (
    if nat_lt b 32 || (b == 127) then 92 ∷ 120 ∷ hex_pair b else b ∷ []))))

-- a text between quotes
abbrev pub quoted : List ℕ → List ℕ
quoted raw = 34 ∷ (flat_map escaped raw ++ 34 ∷ [])

-- a bit pattern: `bits:0x` and two digits for each of these bytes
abbrev pub pattern : List ℕ → List ℕ
pattern raw = codes "bits:0x" ++ flat_map hex_pair raw

abbrev pub truth : Bool → List ℕ
truth true = codes "true"
truth false = codes "false"

-- A scalar: a number in decimal, `true` or `false`, a text between quotes, and the bit pattern of a float, the high byte first.
abbrev pub single_text : Single → List ℕ
single_text (boolean b) = truth b
single_text (byte z) = signed_decimal z
single_text (short z) = signed_decimal z
single_text (int z) = signed_decimal z
single_text (long z) = signed_decimal z
single_text (ubyte n) = decimal n
single_text (ushort n) = decimal n
single_text (uint n) = decimal n
single_text (ulong n) = decimal n
single_text (float n) = pattern (to_be_bytes w32 n)
single_text (double n) = pattern (to_be_bytes w64 n)
single_text (text raw) = quoted raw

-- Texts in order, the first behind `front` and each further one behind a comma and a space.
abbrev pub led : List ℕ → List (List ℕ) → List ℕ
led front [] = []
led front (t ∷ ts) = front ++ (t ++ led (44 ∷ 32 ∷ []) ts)

-- texts with a comma and a space between any two, in square brackets and in braces
abbrev pub bracketed : List (List ℕ) → List ℕ
bracketed ts = 91 ∷ (led [] ts ++ 93 ∷ [])

abbrev pub braced : List (List ℕ) → List ℕ
braced ts = 123 ∷ (led [] ts ++ 125 ∷ [])

-- the elements of a list of scalars
abbrev pub element_texts : Many → List (List ℕ)
element_texts (booleans xs) = map (λ x. single_text (boolean x)) xs
element_texts (bytes xs) = map (λ x. single_text (byte x)) xs
element_texts (shorts xs) = map (λ x. single_text (short x)) xs
element_texts (ints xs) = map (λ x. single_text (int x)) xs
element_texts (longs xs) = map (λ x. single_text (long x)) xs
element_texts (ubytes xs) = map (λ x. single_text (ubyte x)) xs
element_texts (ushorts xs) = map (λ x. single_text (ushort x)) xs
element_texts (uints xs) = map (λ x. single_text (uint x)) xs
element_texts (ulongs xs) = map (λ x. single_text (ulong x)) xs
element_texts (floats xs) = map (λ x. single_text (float x)) xs
element_texts (doubles xs) = map (λ x. single_text (double x)) xs
element_texts (texts xs) = map (λ x. single_text (text x)) xs

abbrev pub null_text : List ℕ
null_text = codes "null"

-- the members of a structure or a union, or of the elements of a list of these
abbrev pub fields_in : Tree → Fields
fields_in (leaf l) = no_fields
fields_in (node k id fs) = fs

-- a member and what stands for it, after its name and a mark
abbrev pub named : List ℕ → ℕ → List ℕ → List ℕ
named name mark t = name ++ mark ∷ t

-- the member in place n: its name and, after a colon, its text
abbrev pub chosen : ℕ → (Tree → List ℕ) → Fields → List ℕ
chosen n text_in no_fields = []
chosen zero text_in (field name t fs) = named name 58 (text_in t)
chosen (suc n) text_in (field name t fs) = chosen n text_in fs

-- The text of a value of a type. A list has its elements in square brackets, a structure `name=text` for each member in braces, a union
-- `name:text`, a null is `null`, and a variant has the text of the value that it carries.
abbrev mutual
  pub text_of : Data → Tree → List ℕ
  text_of (single x) t = single_text x
  text_of (many xs) t = bracketed (element_texts xs)
  text_of (members vs) t = braced (member_texts vs (fields_in t))
  text_of unset t = null_text
  text_of (selected n v) t = chosen n (text_of v) (fields_in t)
  text_of empty t = null_text
  text_of (carried u v) t = text_of v u
  text_of (structs vs) t = bracketed (row_texts vs t)
  text_of (unions vs) t = bracketed (row_texts vs t)
  text_of (variants vs) t = bracketed (row_texts vs t)

  pub member_texts : Row → Fields → List (List ℕ)
  member_texts (more v vs) (field name t fs) = named name 61 (text_of v t) ∷ member_texts vs fs
  member_texts vs fs = []

  pub row_texts : Row → Tree → List (List ℕ)
  row_texts end t = []
  row_texts (gap vs) t = null_text ∷ row_texts vs t
  row_texts (more v vs) t = text_of v t ∷ row_texts vs t
