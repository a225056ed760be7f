-- The plain text of what a record holds.
use Rattle.std.specs.Prelude.{ℕ, List, [], ◌∷◌, ◌++◌, ◌==◌, map, if◌then◌else◌}
use Rattle.std.specs.Fmt.{decimal, signed_decimal}
use Rattle.rec_kinds.specs.declared.datum.Datum.{Datum}
use Rattle.rec_kinds.specs.declared.datum.Datum.TheVariants.{Num, Index, Text, Nums, Texts}

-- texts with a space before each
abbrev pub after_spaces : List (List ℕ) → List ℕ
after_spaces [] = []
after_spaces (t ∷ ts) = 32 ∷ (t ++ after_spaces ts)

-- texts with one space between any two
abbrev pub with_spaces : List (List ℕ) → List ℕ
with_spaces [] = []
with_spaces (t ∷ ts) = t ++ after_spaces ts

-- a number or an index in decimal, a text as it is, and the elements of a list with one space between any two
abbrev pub text_of_datum : Datum → List ℕ
text_of_datum (Num n) = signed_decimal n
text_of_datum (Index i) = decimal i
text_of_datum (Text t) = t
text_of_datum (Nums ns) = with_spaces (map signed_decimal ns)
text_of_datum (Texts ts) = with_spaces ts

-- an item after so many others
abbrev pub item_after : ℕ → List ℕ → List ℕ
item_after place item = if place == 0 then item else 32 ∷ item
