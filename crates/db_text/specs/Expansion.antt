-- The grammar of a database text as given: passages, each with the bytes that it is written with and those that it
-- makes (EPICS IOC Application Developer's Guide, "Database Definition", "Macro Substitution"; EPICS macro library).
use Rattle.std.specs.Prelude.{◌≡◌, ◌≢◌, ◌⊎◌, ℕ, zero, suc, Bool, true, false, not, ◌||◌, ◌==◌, List, [], ◌∷◌, ◌++◌}
use Rattle.std.specs.Prelude.{Option, Some, None, Ok, Err, is_some, if◌then◌else◌}
use Rattle.db_text.specs.Macros.{Macros, MacroFault, unclosed, unknown, too_deep, Made, value_of, first_of, opening}
use Rattle.db_text.specs.Macros.{ends_name}
use Rattle.db_text.specs.Expanding.{Placed, escaped, quoted_after}
use Rattle.db_text.specs.Grammar.{Each, Ends, line_of}

-- `$(NAME)` or `$(NAME=default)`, by its closing bracket, its name and its default; and the bytes and macros that a
-- default or a value is written with.
mutual
  pub data Reference : Type 0 where
    named : ℕ → List ℕ → Reference
    defaulted : ℕ → List ℕ → Content → Reference

  pub data Content : Type 0 where
    nothing : Content
    char : ℕ → Content → Content
    refers : Reference → Content → Content

abbrev pub opener : ℕ → ℕ
opener closer = if closer == 41 then 40 else 123

abbrev mutual
  pub reference_bytes : Reference → List ℕ
  reference_bytes (named closer name) = 36 ∷ opener closer ∷ (name ++ closer ∷ [])
  reference_bytes (defaulted closer name default) =
      36 ∷ opener closer ∷ (name ++ 61 ∷ (content_bytes default ++ closer ∷ []))

  pub content_bytes : Content → List ℕ
  content_bytes nothing = []
  content_bytes (char b more) = b ∷ content_bytes more
  content_bytes (refers r more) = reference_bytes r ++ content_bytes more

-- a closing bracket, and a name that it ends: no such bracket, no `=` and no line's end is in it
abbrev pub IsNamed : ℕ → List ℕ → Type 0
IsNamed closer name = ((closer == 41 || closer == 125) ≡ true) × Each (λ b. not (ends_name closer b)) name

-- Bytes of a default: the closing bracket and the line's end stand in none but the macros inside it.
abbrev pub Within : ℕ → Content → Type 0
Within closer nothing = Unit {0}
Within closer (char b more) = (b ≢ closer) × (b ≢ 10) × Within closer more
Within closer (refers r more) = Within closer more

-- Where `$(` or `${` stands, a macro begins.
abbrev mutual
  pub IsReference : Reference → Type 0
  IsReference (named closer name) = IsNamed closer name
  IsReference (defaulted closer name default) = IsNamed closer name × IsContent default × Within closer default

  pub IsContent : Content → Type 0
  IsContent nothing = Unit {0}
  IsContent (char b more) = (opening (b ∷ content_bytes more) ≡ None) × IsContent more
  IsContent (refers r more) = IsReference r × IsContent more

abbrev pub name_of : Reference → List ℕ
name_of (named closer name) = name
name_of (defaulted closer name default) = name

abbrev pub default_of : Reference → Option (List ℕ)
default_of (named closer name) = None
default_of (defaulted closer name default) = Some (content_bytes default)

-- the text that stands for a macro: its value, else its default
abbrev pub stands_for : Macros → Reference → Option (List ℕ)
stands_for ms r = first_of (value_of ms (name_of r)) (default_of r)

-- What content makes: its bytes, and what its macros give.
abbrev pub Makes : (Reference → Made (List ℕ) → Type 0) → Content → List ℕ → Type 0
Makes gives nothing made = made ≡ []
Makes gives (char b rest) made = (more : List ℕ) × (made ≡ b ∷ more) × Makes gives rest more
Makes gives (refers r rest) made =
    (here : List ℕ) × (more : List ℕ) × gives r (Ok here) × (made ≡ here ++ more) × Makes gives rest more

abbrev pub NoReference : List ℕ → Type 0
NoReference bytes = (r : Reference) (after : List ℕ) → bytes ≡ reference_bytes r ++ after → IsReference r → ⊥

-- A macro begins here, and it is never closed on its line, or it gives a fault.
abbrev pub StopsHere : (Reference → Made (List ℕ) → Type 0) → List ℕ → MacroFault → Type 0
StopsHere gives bytes fault =
    ((is_some (opening bytes) ≡ true) × NoReference bytes × (fault ≡ unclosed))
    ⊎ ((r : Reference) × (after : List ℕ) × (bytes ≡ reference_bytes r ++ after) × IsReference r × gives r (Err fault))

-- What a value or a default makes, or the fault of its first macro that has one. It is searched for macros alone.
abbrev pub Fills : (Reference → Made (List ℕ) → Type 0) → List ℕ → Made (List ℕ) → Type 0
Fills gives text (Ok made) = (c : Content) × (text ≡ content_bytes c) × IsContent c × Makes gives c made
Fills gives text (Err fault) =
    (c : Content) × (rest : List ℕ) × (made : List ℕ) × (text ≡ content_bytes c ++ rest) × IsContent c
    × Makes gives c made × StopsHere gives rest fault

abbrev pub StandsFor : (List ℕ → Made (List ℕ) → Type 0) → List ℕ → Option (List ℕ) → Made (List ℕ) → Type 0
StandsFor fills name None made = made ≡ Err (unknown name)
StandsFor fills name (Some text) made = fills text made

-- What a macro gives, where so many levels of macros may be opened with it.
unfoldable pub Gives : Macros → ℕ → Reference → Made (List ℕ) → Type 0
Gives ms zero r made = made ≡ Err too_deep
Gives ms (suc room) r made = StandsFor (Fills (Gives ms room)) (name_of r) (stands_for ms r) made

-- A passage of a text as given: a comment, from `#` up to the line's end; a macro; in quotes, a backslash and the quote
-- or backslash that it keeps; another byte.
pub data Passage : Type 0 where
  comment : List ℕ → Passage
  macro : Reference → Passage
  pair : ℕ → Passage
  byte : ℕ → Passage

abbrev pub passage_bytes : Passage → List ℕ
passage_bytes (comment bs) = 35 ∷ bs
passage_bytes (macro r) = reference_bytes r
passage_bytes (pair b) = 92 ∷ b ∷ []
passage_bytes (byte b) = b ∷ []

abbrev pub text_of : List Passage → List ℕ
text_of [] = []
text_of (p ∷ ps) = passage_bytes p ++ text_of ps

-- whether quotes are open behind a passage
abbrev pub quoted_behind : Bool → Passage → Bool
quoted_behind quoted (comment bs) = quoted
quoted_behind quoted (macro r) = quoted
quoted_behind quoted (pair b) = quoted
quoted_behind quoted (byte b) = quoted_after quoted b

-- A passage may stand here, in quotes or not, and before these bytes.
abbrev pub MayStand : Bool → Passage → List ℕ → Type 0
MayStand quoted (comment bs) after =
    (quoted ≡ false) × Each (λ b. not (b == 10)) bs × Ends (λ b. not (b == 10)) after
MayStand quoted (macro r) after = IsReference r
MayStand quoted (pair b) after = (quoted ≡ true) × ((b == 34 || b == 92) ≡ true)
MayStand quoted (byte b) after =
    (b ≡ 35 → quoted ≡ true) × (opening (b ∷ after) ≡ None) × (escaped quoted (b ∷ after) ≡ None)

abbrev pub Follow : Bool → List Passage → List ℕ → Type 0
Follow quoted [] after = Unit {0}
Follow quoted (p ∷ ps) after = MayStand quoted p (text_of ps ++ after) × Follow (quoted_behind quoted p) ps after

-- What a passage makes: a comment nothing, all else than a macro its bytes.
abbrev pub MakesHere : Macros → Passage → List ℕ → Type 0
MakesHere ms (comment bs) made = made ≡ []
MakesHere ms (macro r) made = Gives ms 16 r (Ok made)
MakesHere ms (pair b) made = made ≡ 92 ∷ b ∷ []
MakesHere ms (byte b) made = made ≡ b ∷ []

abbrev pub MakeAll : Macros → List Passage → List ℕ → Type 0
MakeAll ms [] made = made ≡ []
MakeAll ms (p ∷ ps) made =
    (here : List ℕ) × (more : List ℕ) × MakesHere ms p here × (made ≡ here ++ more) × MakeAll ms ps more

-- A text is expanded to this one, or this is its first fault, with its line in the text as given.
abbrev pub ExpandsTo : Macros → List ℕ → Placed → Type 0
ExpandsTo ms text (Ok plain) =
    (ps : List Passage) × (text ≡ text_of ps ++ []) × Follow false ps [] × MakeAll ms ps plain
ExpandsTo ms text (Err e) =
    (ps : List Passage) × (rest : List ℕ) × (made : List ℕ) × (text ≡ text_of ps ++ rest) × Follow false ps rest
    × MakeAll ms ps made × StopsHere (Gives ms 16) rest e.0 × (e.1 ≡ line_of (text_of ps))

abbrev pub Expanded : Macros → List ℕ → List ℕ → Type 0
Expanded ms text plain = ExpandsTo ms text (Ok plain)

-- A text has one expansion or one first fault, and not both.
abbrev pub OneExpansion : Type 0
OneExpansion =
    (ms : Macros) (text : List ℕ) (one other : Placed) → ExpandsTo ms text one → ExpandsTo ms text other → one ≡ other

-- no value ends a line
abbrev pub OnOneLine : Macros → Type 0
OnOneLine [] = Unit {0}
OnOneLine (m ∷ ms) = Each (λ b. not (b == 10)) m.1 × OnOneLine ms

-- Where no value ends a line, what passages make ends as many lines as they do: a place has the line of the text as
-- given.
abbrev pub LinesStay : Type 0
LinesStay =
    (ms : Macros) (quoted : Bool) (ps : List Passage) (after plain : List ℕ) → OnOneLine ms → Follow quoted ps after
    → MakeAll ms ps plain → line_of plain ≡ line_of (text_of ps)
