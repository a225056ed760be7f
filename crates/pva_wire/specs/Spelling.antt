-- How numbers, sizes and texts are spelled (pvAccess Protocol Specification, "Data Encoding").
use Rattle.std.specs.Prelude.{◌≡◌, ◌⊎◌, ℕ, ◌-◌, ◌<◌, ◌^◌, get_or, List, [], ◌∷◌, ◌++◌, length, Option, Some, None, if◌then◌else◌, nat_lt}
use Rattle.std.specs.Str.{IsUtf8}
use Rattle.byteorder.specs.Endian.{little_bytes, big_bytes}
use Rattle.pva_wire.specs.declared.order.Order.{Order}
use Rattle.pva_wire.specs.declared.order.Order.TheVariants.{Little, Big}

-- a list of bytes
abbrev pub IsBytes : List ℕ → Type 0
IsBytes bytes = (i : ℕ) → get_or bytes i 0 < 256

-- the n bytes of a number
abbrev pub number_bytes : Order → ℕ → ℕ → List ℕ
number_bytes Little n x = little_bytes n x
number_bytes Big n x = big_bytes n x

-- a number of n bytes
abbrev pub SpellsNumber : Order → ℕ → List ℕ → ℕ → Type 0
SpellsNumber order n bytes x = (x < 256 ^ n) × (bytes ≡ number_bytes order n x)

-- a 32-bit number
abbrev pub word : Order → ℕ → List ℕ
word order n = number_bytes order 4 n

-- a size that has a spelling
abbrev pub IsSize : ℕ → Type 0
IsSize n = n < 2 ^ 31 - 1

-- A size, or null. A size below 254 may be spelled in both forms.
abbrev pub SpellsSize : Order → List ℕ → Option ℕ → Type 0
SpellsSize order bytes None = bytes ≡ 255 ∷ []
SpellsSize order bytes (Some n) =
    ((n < 254) × (bytes ≡ n ∷ [])) ⊎ (IsSize n × (bytes ≡ 254 ∷ word order n))

-- the one spelling that is written
abbrev pub canonical_size : Order → ℕ → List ℕ
canonical_size order n = if nat_lt n 254 then n ∷ [] else 254 ∷ word order n

-- A text is its size and its bytes, or null, which is the empty text.
abbrev pub SpellsText : Order → List ℕ → List ℕ → Type 0
SpellsText order bytes text =
    ((bytes ≡ 255 ∷ []) × (text ≡ []))
    ⊎ ((size : List ℕ) × SpellsSize order size (Some (length text)) × IsUtf8 text × (bytes ≡ size ++ text))

-- the one spelling that is written
abbrev pub canonical_text : Order → List ℕ → List ℕ
canonical_text order text = canonical_size order (length text) ++ text

-- a text that has a spelling
abbrev pub IsText : List ℕ → Type 0
IsText text = IsUtf8 text × IsSize (length text)
