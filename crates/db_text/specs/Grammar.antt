-- The grammar of a database text whose macros are replaced: pieces, each with the bytes that it is written with (EPICS
-- IOC Application Developer's Guide, "Database Definition").
use Rattle.std.specs.Prelude.{◌≡◌, ◌≢◌, ◌<◌, ◌≤◌, ℕ, suc, ◌+◌, ◌-◌, Bool, true, false, ◌&&◌, ◌||◌, ◌==◌, List, [], ◌∷◌}
use Rattle.std.specs.Prelude.{◌++◌, length, map, take, drop, count_by, Option, Some, None, if◌then◌else◌}
use Rattle.std.specs.Str.{bytes_eq}
use Rattle.db_text.specs.Cutting.{is_word, is_key, is_mark, is_blank, escape, is_info}
use Rattle.db_text.specs.declared.fault.TextFault.{TextFault}
use Rattle.db_text.specs.declared.fault.TextFault.TheVariants.{BadToken, OpenString}
use Rattle.db_text.specs.declared.token.Token.{Token}
use Rattle.db_text.specs.declared.token.TokenKind.{TokenKind}
use Rattle.db_text.specs.declared.token.TokenKind.TheVariants.{Bare, Quoted, Mark, Json}

-- What stands in quotes: a byte as it is, or a backslash and the byte that it escapes.
pub data Char : Type 0 where
  as_is : ℕ → Char
  escaped : ℕ → Char

abbrev pub char_bytes : Char → List ℕ
char_bytes (as_is b) = b ∷ []
char_bytes (escaped b) = 92 ∷ b ∷ []

abbrev pub chars_bytes : List Char → List ℕ
chars_bytes [] = []
chars_bytes (c ∷ cs) = char_bytes c ++ chars_bytes cs

-- what quoted characters mean
abbrev pub chars_text : List Char → List ℕ
chars_text [] = []
chars_text (as_is b ∷ cs) = b ∷ chars_text cs
chars_text (escaped b ∷ cs) = escape b ++ chars_text cs

-- Characters of a quoted text, which ends on its line.
abbrev pub IsQuoted : List Char → Type 0
IsQuoted [] = Unit {0}
IsQuoted (as_is b ∷ cs) = (b ≢ 34) × (b ≢ 92) × (b ≢ 10) × IsQuoted cs
IsQuoted (escaped b ∷ cs) = (b ≢ 10) × IsQuoted cs

-- Characters of a text in JSON.
abbrev pub IsJsonText : List Char → Type 0
IsJsonText [] = Unit {0}
IsJsonText (as_is b ∷ cs) = (b ≢ 34) × (b ≢ 92) × IsJsonText cs
IsJsonText (escaped b ∷ cs) = IsJsonText cs

-- What stands in the braces of JSON: a run of letters, digits and `_ + - .`, a text in quotes, a brace, another byte.
pub data Item : Type 0 where
  run : List ℕ → Item
  in_quotes : List Char → Item
  opens : Item
  closes : Item
  other : ℕ → Item

abbrev pub item_bytes : Item → List ℕ
item_bytes (run bs) = bs
item_bytes (in_quotes cs) = 34 ∷ (chars_bytes cs ++ 34 ∷ [])
item_bytes opens = 123 ∷ []
item_bytes closes = 125 ∷ []
item_bytes (other b) = b ∷ []

abbrev pub items_bytes : List Item → List ℕ
items_bytes [] = []
items_bytes (i ∷ is) = item_bytes i ++ items_bytes is

-- a colon follows, after spaces and tabs
abbrev pub before_colon : List Item → Bool
before_colon (other b ∷ is) = if b == 32 || b == 9 then before_colon is else b == 58
before_colon is = false

-- The text of a JSON token: as it is written, but for the runs that a colon follows, which are put in quotes.
abbrev pub items_text : List Item → List ℕ
items_text [] = []
items_text (run bs ∷ is) = (if before_colon is then 34 ∷ (bs ++ 34 ∷ []) else bs) ++ items_text is
items_text (in_quotes cs ∷ is) = item_bytes (in_quotes cs) ++ items_text is
items_text (opens ∷ is) = 123 ∷ items_text is
items_text (closes ∷ is) = 125 ∷ items_text is
items_text (other b ∷ is) = b ∷ items_text is

-- each byte passes
abbrev pub Each : (ℕ → Bool) → List ℕ → Type 0
Each p [] = Unit {0}
Each p (b ∷ bs) = (p b ≡ true) × Each p bs

-- at least one byte, and each passes
abbrev pub IsRun : (ℕ → Bool) → List ℕ → Type 0
IsRun p [] = ⊥
IsRun p (b ∷ bs) = (p b ≡ true) × Each p bs

-- no byte follows that passes
abbrev pub Ends : (ℕ → Bool) → List ℕ → Type 0
Ends p [] = Unit {0}
Ends p (b ∷ bs) = p b ≡ false

-- no run stands beside another
abbrev pub NoRun : List Item → Type 0
NoRun (run bs ∷ is) = ⊥
NoRun is = Unit {0}

-- The braces of JSON match, where so many are open; braces in quotes aren't counted.
abbrev pub IsJson : ℕ → List Item → Type 0
IsJson depth [] = depth ≡ 0
IsJson depth (run bs ∷ is) = IsRun is_key bs × NoRun is × IsJson depth is
IsJson depth (in_quotes cs ∷ is) = IsJsonText cs × IsJson depth is
IsJson depth (opens ∷ is) = IsJson (suc depth) is
IsJson depth (closes ∷ is) = (0 < depth) × IsJson (depth - 1) is
IsJson depth (other b ∷ is) = (is_key b ≡ false) × (b ≢ 34) × (b ≢ 123) × (b ≢ 125) × IsJson depth is

-- A piece of a text: a blank, or a token.
pub data Piece : Type 0 where
  blank : ℕ → Piece
  bare : List ℕ → Piece
  quotes : List Char → Piece
  sign : ℕ → Piece
  braces : List Item → Piece

-- the bytes that a piece is written with
abbrev pub piece_bytes : Piece → List ℕ
piece_bytes (blank b) = b ∷ []
piece_bytes (bare bs) = bs
piece_bytes (quotes cs) = 34 ∷ (chars_bytes cs ++ 34 ∷ [])
piece_bytes (sign b) = b ∷ []
piece_bytes (braces is) = 123 ∷ (items_bytes is ++ 125 ∷ [])

abbrev pub bytes_of : List Piece → List ℕ
bytes_of [] = []
bytes_of (p ∷ ps) = piece_bytes p ++ bytes_of ps

-- a token's kind and text
abbrev pub Word : Type 0
Word = TokenKind × List ℕ

-- the token of a piece, if it is one
abbrev pub words_of : Piece → List Word
words_of (blank b) = []
words_of (bare bs) = (Bare, bs) ∷ []
words_of (quotes cs) = (Quoted, chars_text cs) ∷ []
words_of (sign b) = (Mark, b ∷ []) ∷ []
words_of (braces is) = (Json, 123 ∷ (items_text is ++ 125 ∷ [])) ∷ []

abbrev pub is_bare : TokenKind → Bool
is_bare Bare = true
is_bare Quoted = false
is_bare Mark = false
is_bare Json = false

abbrev pub is_sign : TokenKind → Bool
is_sign Mark = true
is_sign Bare = false
is_sign Quoted = false
is_sign Json = false

abbrev pub is_name : TokenKind → Bool
is_name Bare = true
is_name Quoted = true
is_name Mark = false
is_name Json = false

-- Whether words, the last one first, end in `info`; in `info(`; in `info(NAME`; in `info(NAME,`.
abbrev pub ends_info : List Word → Bool
ends_info [] = false
ends_info (w ∷ ws) = is_bare w.0 && is_info w.1

abbrev pub ends_open : List Word → Bool
ends_open [] = false
ends_open (w ∷ ws) = ends_info ws && (is_sign w.0 && bytes_eq w.1 (40 ∷ []))

abbrev pub ends_name : List Word → Bool
ends_name [] = false
ends_name (w ∷ ws) = ends_open ws && is_name w.0

abbrev pub ends_comma : List Word → Bool
ends_comma [] = false
ends_comma (w ∷ ws) = ends_name ws && (is_sign w.0 && bytes_eq w.1 (44 ∷ []))

-- A piece may stand behind these words, the last one first, and before these bytes. A bare word is as long as it can
-- be; behind `info(NAME,` a brace begins JSON.
abbrev pub Fits : List Word → Piece → List ℕ → Type 0
Fits done (blank b) after = is_blank b ≡ true
Fits done (bare bs) after = IsRun is_word bs × Ends is_word after
Fits done (quotes cs) after = IsQuoted cs
Fits done (sign b) after = (is_mark b ≡ true) × (b ≡ 123 → ends_comma done ≡ false)
Fits done (braces is) after = (ends_comma done ≡ true) × IsJson 0 is

-- the words behind a piece and those before it
abbrev pub done_with : List Word → Piece → List Word
done_with done p = words_of p ++ done

abbrev pub done_by : List Word → List Piece → List Word
done_by done [] = done
done_by done (p ∷ ps) = done_by (done_with done p) ps

-- pieces, each of which may stand where it does
abbrev pub Sequence : List Word → List Piece → List ℕ → Type 0
Sequence done [] after = Unit {0}
Sequence done (p ∷ ps) after = Fits done p (bytes_of ps ++ after) × Sequence (done_with done p) ps after

-- the line behind these bytes, counted from 1
abbrev pub line_of : List ℕ → ℕ
line_of before = 1 + count_by (λ b. b == 10) before

-- the token of a word that is written with these bytes, behind others
abbrev pub placed : List ℕ → List ℕ → Word → Token
placed before bytes w =
    record {
      kind = w.0;
      text = w.1;
      start = length before;
      end = length before + length bytes;
      line = line_of before;
    }

-- the tokens of pieces that stand behind these bytes
abbrev pub tokens_of : List ℕ → List Piece → List Token
tokens_of before [] = []
tokens_of before (p ∷ ps) =
    map (placed before (piece_bytes p)) (words_of p) ++ tokens_of (before ++ piece_bytes p) ps

-- at these bytes, behind these words, no piece begins
abbrev pub NoPiece : List Word → List ℕ → Type 0
NoPiece done bytes = (p : Piece) (after : List ℕ) → bytes ≡ piece_bytes p ++ after → Fits done p after → ⊥

-- A byte where no piece begins: a quote is never closed on its line, and every other byte is a bad token.
abbrev pub fault_at : ℕ → ℕ → TextFault
fault_at b line = if b == 34 then OpenString line else BadToken line

-- nothing is left, or no piece begins at what is left
abbrev pub StopsAt : List Word → ℕ → List ℕ → Option TextFault → Type 0
StopsAt done line [] stop = stop ≡ None
StopsAt done line (b ∷ rest) stop = NoPiece done (b ∷ rest) × (stop ≡ Some (fault_at b line))

-- These are the tokens of a text up to its first fault, or up to its end.
abbrev pub TokensTo : List ℕ → List Token → Option TextFault → Type 0
TokensTo text tokens stop =
    (pieces : List Piece) × (rest : List ℕ) × (text ≡ bytes_of pieces ++ rest) × Sequence [] pieces rest
    × (tokens ≡ tokens_of [] pieces) × StopsAt (done_by [] pieces) (line_of (bytes_of pieces)) rest stop

-- These are the tokens of a text.
abbrev pub Tokens : List ℕ → List Token → Type 0
Tokens text tokens = TokensTo text tokens None

-- This is the first fault of a text.
abbrev pub FirstFault : List ℕ → TextFault → Type 0
FirstFault text fault = (tokens : List Token) × TokensTo text tokens (Some fault)

-- Tokens rise: each has a byte, and begins where the one before it ends, or behind that.
abbrev pub Rise : ℕ → List Token → Type 0
Rise from [] = Unit {0}
Rise from (t ∷ ts) = (from ≤ t.start) × (t.start < t.end) × Rise t.end ts

-- The bytes of a token's span are a piece, and the token is that of the piece.
abbrev pub IsSlice : List ℕ → Token → Type 0
IsSlice text t =
    (p : Piece) × (take (t.end - t.start) (drop t.start text) ≡ piece_bytes p) × (words_of p ≡ (t.kind, t.text) ∷ [])

abbrev pub AreSlices : List ℕ → List Token → Type 0
AreSlices text [] = Unit {0}
AreSlices text (t ∷ ts) = IsSlice text t × AreSlices text ts

-- Tokens up to a fault rise, and each is its slice of the text.
abbrev pub TokensAreSlices : Type 0
TokensAreSlices =
    (text : List ℕ) (tokens : List Token) (stop : Option TextFault) → TokensTo text tokens stop
    → Rise 0 tokens × AreSlices text tokens

-- A text has one list of tokens up to one fault, or none.
abbrev pub OneCut : Type 0
OneCut =
    (text : List ℕ) (tokens others : List Token) (stop other : Option TextFault) → TokensTo text tokens stop
    → TokensTo text others other → (tokens ≡ others) × (stop ≡ other)
