-- JSON with its bare keys put in quotes (EPICS IOC Application Developer's Guide, "Database Definition": JSON values of
-- infos). A bare key is a bare word behind which a colon stands, after spaces and tabs.
use Rattle.std.specs.Prelude.{ℕ, Bool, false, not, ◌&&◌, ◌||◌, ◌==◌, List, [], ◌∷◌, ◌++◌, drop, nat_le, if◌then◌else◌}
use Rattle.std.specs.Prelude.{Option, None, Some}
use Rattle.std.specs.List.{position, find}
use Rattle.group_defs.specs.declared.bare_keys.Within.{Within}
use Rattle.group_defs.specs.declared.bare_keys.Within.TheVariants.{Elsewhere, Word, Quotes, Escape}

abbrev pub between : ℕ → ℕ → ℕ → Bool
between low high b = nat_le low b && nat_le b high

-- letters and digits
abbrev pub is_alphanumeric : ℕ → Bool
is_alphanumeric b = between 48 57 b || between 65 90 b || between 97 122 b

-- the bytes of bare words: letters, digits and `_ + - .`
abbrev pub is_word : ℕ → Bool
is_word b = is_alphanumeric b || b == 95 || b == 43 || b == 45 || b == 46

abbrev pub is_space : ℕ → Bool
is_space b = b == 32 || b == 9

-- the place behind a byte
abbrev pub unquoted : ℕ → Within
unquoted b = if b == 34 then Quotes else if is_word b then Word else Elsewhere

abbrev pub behind : Within → ℕ → Within
behind Elsewhere b = unquoted b
behind Word b = unquoted b
behind Quotes b = if b == 92 then Escape else if b == 34 then Elsewhere else Quotes
behind Escape b = Quotes

-- whether the first byte that is no space or tab is a colon
abbrev pub is_colon : Option ℕ → Bool
is_colon None = false
is_colon (Some b) = b == 58

abbrev pub is_before_colon : List ℕ → Bool
is_before_colon bytes = is_colon (find (λ b. not (is_space b)) bytes)

-- whether a colon stands behind the rest of a bare word
abbrev pub ends_as_key : List ℕ → Option ℕ → Bool
ends_as_key bytes None = false
ends_as_key bytes (Some len) = is_before_colon (drop len bytes)

abbrev pub is_rest_of_key : List ℕ → Bool
is_rest_of_key bytes = ends_as_key bytes (position (λ b. not (is_word b)) bytes)

-- whether a bare key begins with this byte, and whether one ends with it, where these follow
abbrev pub opens_key : Within → ℕ → List ℕ → Bool
opens_key Elsewhere b rest = is_word b && is_rest_of_key rest
opens_key Word b rest = false
opens_key Quotes b rest = false
opens_key Escape b rest = false

abbrev pub closes_key : Within → ℕ → List ℕ → Bool
closes_key Elsewhere b rest = is_word b && is_before_colon rest
closes_key Word b rest = is_word b && is_before_colon rest
closes_key Quotes b rest = false
closes_key Escape b rest = false

-- a quote where one belongs
abbrev pub quote_if : Bool → List ℕ
quote_if needed = if needed then 34 ∷ [] else []

-- a byte, with a quote before it where it begins a bare key, and one behind it where it ends one
unfoldable pub byte_text : Within → ℕ → List ℕ → List ℕ
byte_text within b rest = quote_if (opens_key within b rest) ++ b ∷ quote_if (closes_key within b rest)

unfoldable pub text_from : Within → List ℕ → List ℕ
text_from within [] = []
text_from within (b ∷ rest) = byte_text within b rest ++ text_from (behind within b) rest

-- a text with its bare keys in quotes
unfoldable pub with_quoted_keys : List ℕ → List ℕ
with_quoted_keys text = text_from Elsewhere text
