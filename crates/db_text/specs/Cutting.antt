-- The tokens of a database text whose macros are replaced (EPICS IOC Application Developer's Guide, "Database
-- Definition": "Unquoted Strings", "Quoted Strings", JSON values of infos).
use Rattle.std.specs.Prelude.{ℕ, zero, suc, ◌+◌, ◌-◌, Bool, true, false, not, ◌&&◌, ◌||◌, List, [], ◌∷◌, ◌++◌, length}
use Rattle.std.specs.Prelude.{take, drop, Option, Some, None, Result, Ok, Err, ◌==◌, nat_le, count_by, if◌then◌else◌}
use Rattle.std.specs.Str.{bytes_eq}
use Rattle.db_text.specs.Macros.{front, before_first}
use Rattle.db_text.specs.Expanding.{line_after}
use Rattle.db_text.specs.declared.fault.TextFault.{TextFault}
use Rattle.db_text.specs.declared.fault.TextFault.TheVariants.{BadToken, OpenString}
use Rattle.db_text.specs.declared.token.Token.{Token}
use Rattle.db_text.specs.declared.token.TokenKind.{TokenKind}
use Rattle.db_text.specs.declared.token.TokenKind.TheVariants.{Bare, Quoted, Mark, Json}
use Rattle.db_text.specs.declared.token.Before.{Before}
use Rattle.db_text.specs.declared.token.Before.TheVariants.{Other, Info, Open, Name, InfoName, Comma}

abbrev pub within : ℕ → ℕ → ℕ → Bool
within low high b = nat_le low b && nat_le b high

-- letters and digits
abbrev pub is_alphanumeric : ℕ → Bool
is_alphanumeric b = within 48 57 b || within 65 90 b || within 97 122 b

-- the bytes of bare words: letters, digits and `_ - + : . [ ] < > ;`
abbrev pub is_word : ℕ → Bool
is_word b =
    is_alphanumeric b || b == 95 || b == 45 || b == 43 || b == 58 || b == 46
    || b == 91 || b == 93 || b == 60 || b == 62 || b == 59

-- the bytes of bare words in JSON: letters, digits and `_ + - .`
abbrev pub is_key : ℕ → Bool
is_key b = is_alphanumeric b || b == 95 || b == 43 || b == 45 || b == 46

-- `( ) { } ,`
abbrev pub is_mark : ℕ → Bool
is_mark b = b == 40 || b == 41 || b == 123 || b == 125 || b == 44

-- what may stand between tokens: space, tab, CR and LF
abbrev pub is_blank : ℕ → Bool
is_blank b = b == 32 || b == 9 || b == 13 || b == 10

-- what a backslash and a byte stand for in quotes
unfoldable pub escape : ℕ → List ℕ
escape x =
    if x == 34 then 34 ∷ []
    else if x == 92 then 92 ∷ []
    else if x == 110 then 10 ∷ []
    else if x == 116 then 9 ∷ []
    else 92 ∷ x ∷ []

-- a text that is read, and what follows it
abbrev pub Text : Type 0
Text = Option (List ℕ × List ℕ)

abbrev pub put : List ℕ → Text → Text
put made None = None
put made (Some t) = Some (made ++ t.0, t.1)

abbrev pub escaped_text : (List ℕ → Text) → Option (ℕ × List ℕ) → Text
escaped_text more None = None
escaped_text more (Some x) = if x.0 == 10 then None else put (escape x.0) (more x.1)

-- A quoted text behind its opening quote, and what follows its closing one; it ends on its line.
unfoldable pub quoted_at : ℕ → List ℕ → Text
quoted_at zero bytes = None
quoted_at (suc n) [] = None
quoted_at (suc n) (b ∷ rest) =
    if b == 34 then Some ([], rest)
    else if b == 10 then None
    else if b == 92 then escaped_text (quoted_at n) (front rest)
    else put (b ∷ []) (quoted_at n rest)

-- a bare word of JSON is a key where a colon follows it, after blanks
abbrev pub is_colon : List ℕ → Bool
is_colon [] = false
is_colon (b ∷ rest) = b == 58

abbrev pub is_before_colon : List ℕ → Bool
is_before_colon bytes = is_colon (drop (before_first (λ b. not (b == 32 || b == 9)) bytes) bytes)

-- a bare word, in quotes where it is a key
abbrev pub key_text : List ℕ → List ℕ → List ℕ
key_text word rest = if is_before_colon rest then 34 ∷ (word ++ 34 ∷ []) else word

abbrev pub word_len : List ℕ → ℕ
word_len bytes = before_first (λ b. not (is_key b)) bytes

abbrev pub kept_pair : ℕ → (List ℕ → Text) → Option (ℕ × List ℕ) → Text
kept_pair b more None = None
kept_pair b more (Some x) = put (b ∷ x.0 ∷ []) (more x.1)

-- JSON behind its opening brace, inside of quotes or not, with so many more braces open: up to the matching one, its
-- bare keys put in quotes. Braces in quotes aren't counted.
unfoldable pub json_at : ℕ → Bool → ℕ → List ℕ → Text
json_at zero quoted depth bytes = None
json_at (suc n) quoted depth [] = None
json_at (suc n) true depth (b ∷ rest) =
    if b == 92 then kept_pair b (json_at n true depth) (front rest)
    else put (b ∷ []) (json_at n (not (b == 34)) depth rest)
json_at (suc n) false depth (b ∷ rest) =
    if is_key b then
    (let k = word_len rest in put (key_text (b ∷ take k rest) (drop k rest)) (json_at n false depth (drop k rest)))
    else if b == 125 then (if depth == 0 then Some (b ∷ [], rest) else put (b ∷ []) (json_at n false (depth - 1) rest))
    else put (b ∷ []) (json_at n (b == 34) (if b == 123 then depth + 1 else depth) rest)

-- what may be wrong with a token
pub data TokenFault : Type 0 where
  bad : TokenFault
  open_quotes : TokenFault

-- a token's kind and text, and what follows it
abbrev pub Piece : Type 0
Piece = Result (TokenKind × List ℕ × List ℕ) TokenFault

abbrev pub piece : TokenKind → TokenFault → Text → Piece
piece kind fault None = Err fault
piece kind fault (Some t) = Ok (kind, t.0, t.1)

abbrev pub is_comma : Before → Bool
is_comma Comma = true
is_comma Other = false
is_comma Info = false
is_comma Open = false
is_comma Name = false
is_comma InfoName = false

-- a bare word, and what follows it
unfoldable pub bare_at : List ℕ → List ℕ × List ℕ
bare_at [] = ([], [])
bare_at (b ∷ rest) = let k = before_first (λ x. not (is_word x)) rest in (b ∷ take k rest, drop k rest)

abbrev pub bare_piece : List ℕ × List ℕ → Piece
bare_piece word = Ok (Bare, word.0, word.1)

-- the token that begins here
unfoldable pub token_at : Before → List ℕ → Piece
token_at before [] = Err bad
token_at before (b ∷ rest) =
    if b == 34 then piece Quoted open_quotes (quoted_at (length rest) rest)
    else if b == 123 && is_comma before then piece Json bad (put (123 ∷ []) (json_at (length rest) false 0 rest))
    else if is_mark b then Ok (Mark, b ∷ [], rest)
    else if is_word b then bare_piece (bare_at (b ∷ rest))
    else Err bad

abbrev pub is_info : List ℕ → Bool
is_info text = bytes_eq text (105 ∷ 110 ∷ 102 ∷ 111 ∷ [])

abbrev pub follows_word : Before → List ℕ → Before
follows_word Open text = if is_info text then InfoName else Name
follows_word before text = if is_info text then Info else Other

abbrev pub follows_quoted : Before → Before
follows_quoted Open = Name
follows_quoted before = Other

abbrev pub follows_mark : Before → List ℕ → Before
follows_mark Info text = if bytes_eq text (40 ∷ []) then Open else Other
follows_mark InfoName text = if bytes_eq text (40 ∷ []) then Open else if bytes_eq text (44 ∷ []) then Comma else Other
follows_mark Name text = if bytes_eq text (44 ∷ []) then Comma else Other
follows_mark before text = Other

-- What stands before the next token: the longest beginning of `info(NAME,` that ends with this one.
unfoldable pub follows : Before → TokenKind → List ℕ → Before
follows before Bare text = follows_word before text
follows before Quoted text = follows_quoted before
follows before Mark text = follows_mark before text
follows before Json text = Other

abbrev pub fault_on : ℕ → TokenFault → TextFault
fault_on line bad = BadToken line
fault_on line open_quotes = OpenString line

-- tokens, and the fault that stops them
abbrev pub Cut : Type 0
Cut = List Token × Option TextFault

abbrev pub then_cut : List Token → Cut → Cut
then_cut tokens c = (tokens ++ c.0, c.1)

abbrev pub Cutting : Type 0
Cutting = Before → ℕ → List ℕ → Cut

-- a token of a text that has so many bytes in all, and the tokens after it
abbrev pub cut_token : ℕ → Cutting → Before → ℕ → List ℕ → Piece → Cut
cut_token total more before line bytes (Err fault) = ([], Some (fault_on line fault))
cut_token total more before line bytes (Ok p) =
    let start = total - length bytes in
    let end = total - length p.2 in
    let token : Token = record { kind = p.0; text = p.1; start = start; end = end; line = line } in
    let lines = count_by (λ b. b == 10) (take (length bytes - length p.2) bytes) in
    then_cut (token ∷ []) (more (follows before p.0 p.1) (line + lines) p.2)

unfoldable pub cut_from : ℕ → ℕ → Cutting
cut_from total zero before line bytes = ([], None)
cut_from total (suc n) before line [] = ([], None)
cut_from total (suc n) before line (b ∷ rest) =
    if is_blank b then cut_from total n before (line_after line b) rest
    else cut_token total (cut_from total n) before line (b ∷ rest) (token_at before (b ∷ rest))

-- the tokens of a whole text up to its first fault
unfoldable pub cut : List ℕ → Cut
cut text = cut_from (length text) (length text) Other 1 text
