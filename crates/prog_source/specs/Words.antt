-- What the words of a program mean that name its records: SOURCE, the macros of its text, and numbers.
use Rattle.std.specs.Prelude.{◌≡◌, ℕ, ℤ, ◌≤◌, not, ◌&&◌, ◌||◌, ◌==◌, nat_le, List, [], ◌∷◌, ◌++◌, length, get_or, Bool, true}
use Rattle.std.specs.Prelude.{Option, None, Some, Contains, FitsSigned, ⊤}
use Rattle.std.specs.Int.{w32}
use Rattle.std.specs.Fmt.{decimal, signed_decimal}
use Rattle.std.specs.List.{list_all, slice_split}
use Rattle.db_text.specs.Macros.{Macros}
use Rattle.desk_api.specs.Sites.{is_record_name}
use Rattle.prog_source.specs.declared.source.Source.{Source as SourceRead}
use Rattle.prog_source.specs.declared.source.Source.TheVariants as sources

-- The text is how a number of 32 signed bits is written: in decimal digits without a zero in front, with a minus where it is negative.
pub record IsNumber (text : List ℕ) (value : ℤ) : Type 0 where
  pub written : text ≡ signed_decimal value
  pub fits : FitsSigned w32 value

-- whether a digit other than zero stands at this place
abbrev pub is_digit_at : ℕ → List ℕ → Bool
is_digit_at i text = nat_le 49 (get_or text i 0) && nat_le (get_or text i 0) 57

-- Whether a text begins as a number does: with a digit other than zero, also behind a minus. Zero stands alone.
abbrev pub is_plain : List ℕ → Bool
is_plain text = (is_digit_at 0 text || ((get_or text 0 0 == 45) && is_digit_at 1 text)) || ((get_or text 0 0 == 48) && (length text == 1))

-- the same of a number without a sign
abbrev pub is_plain_count : List ℕ → Bool
is_plain_count text = is_digit_at 0 text || ((get_or text 0 0 == 48) && (length text == 1))

-- where the records come from: one longout, with the value that it opens with, or the file of this name
pub data Source : Type 0 where
  single : List ℕ → ℤ → Source
  file : List ℕ → Source

abbrev pub source_of : SourceRead → Source
source_of (sources.Record name value) = single name.now value
source_of (sources.File name) = file name.now

-- The record of a source may have its name.
abbrev pub IsNamed : Source → Type 0
IsNamed (single name value) = is_record_name name ≡ true
IsNamed (file name) = ⊤

-- The text is NAME=VALUE. The name may name a record and has no = in it, and the value is a number.
pub record IsSingle (text name : List ℕ) (value : ℤ) : Type 0 where
  pub number : List ℕ
  pub text_is : text ≡ name ++ 61 ∷ number
  pub name_is : is_record_name name ≡ true
  pub first : ¬ (Contains name 61)
  pub number_is : IsNumber number value

-- A text without a = names a file.
abbrev pub IsSource : List ℕ → Source → Type 0
IsSource text (single name value) = IsSingle text name value
IsSource text (file name) = (text ≡ name) × ¬ (Contains text 61)

-- a letter, a digit or an underscore
abbrev pub is_name_byte : ℕ → Bool
is_name_byte b =
    (nat_le 48 b && nat_le b 57) || ((nat_le 65 b && nat_le b 90) || ((b == 95) || (nat_le 97 b && nat_le b 122)))

abbrev pub is_macro_name : List ℕ → Bool
is_macro_name text = not (length text == 0) && list_all is_name_byte text

-- The text is NAME=TEXT: a macro's name, which has no = in it, and a value without a line feed.
pub record IsPair (text : List ℕ) (pair : List ℕ × List ℕ) : Type 0 where
  pub text_is : text ≡ pair.0 ++ 61 ∷ pair.1
  pub name_is : is_macro_name pair.0 ≡ true
  pub one_line : ¬ (Contains pair.1 10)

abbrev pub ArePairs : List (List ℕ) → Macros → Type 0
ArePairs [] [] = ⊤
ArePairs (text ∷ texts) (pair ∷ pairs) = IsPair text pair × ArePairs texts pairs
ArePairs _ _ = ⊥

-- the pieces of a text between its commas; an empty text has none
abbrev pub pieces : List ℕ → List (List ℕ)
pieces [] = []
pieces (b ∷ text) = slice_split (λ c. c == 44) (b ∷ text)

-- The text is these macros, divided by commas.
abbrev pub AreMacros : List ℕ → Macros → Type 0
AreMacros text macros = ArePairs (pieces text) macros

-- What an option says that takes a number from the least to the most: in decimal digits without a sign or a zero in
-- front. Where it isn't given another number stands.
pub record IsCount (text : List ℕ) (least most count : ℕ) : Type 0 where
  pub written : text ≡ decimal count
  pub least_is : least ≤ count
  pub most_is : count ≤ most

abbrev pub IsCountOr : Option (List ℕ) → ℕ → ℕ → ℕ → ℕ → Type 0
IsCountOr None least most otherwise count = count ≡ otherwise
IsCountOr (Some text) least most otherwise count = IsCount text least most count

-- the macros of the option for them; without it there are none
abbrev pub AreMacrosOr : Option (List ℕ) → Macros → Type 0
AreMacrosOr None macros = macros ≡ []
AreMacrosOr (Some text) macros = AreMacros text macros
