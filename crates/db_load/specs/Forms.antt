-- The forms of a database text: records with fields and infos (EPICS IOC Application Developer's Guide, "Database
-- Definition", `record`, `field`, `info`).
use Rattle.std.specs.Prelude.{◌≡◌, ℕ, zero, suc, ◌+◌, Bool, true, false, not, ◌&&◌, ◌||◌, List, [], ◌∷◌, ◌++◌, length}
use Rattle.std.specs.Prelude.{Option, Some, None, Result, Ok, Err, ◌==◌, nat_le, is_some, codes, if◌then◌else◌}
use Rattle.std.specs.List.{list_all}
use Rattle.std.specs.Str.{bytes_eq}
use Rattle.db_text.specs.Grammar.{is_sign, is_name}
use Rattle.db_text.specs.declared.token.Token.{Token}
use Rattle.db_text.specs.declared.token.TokenKind.{TokenKind}
use Rattle.db_text.specs.declared.token.TokenKind.TheVariants.{Bare, Quoted, Mark, Json}
use Rattle.rec_kinds.specs.declared.kind.Kind.{Kind}
use Rattle.rec_kinds.specs.declared.record_text.FieldText.{FieldText}
use Rattle.rec_kinds.specs.declared.record_text.Info.{Info}
use Rattle.rec_kinds.specs.declared.record_text.RecText.{RecText}
use Rattle.rec_kinds.specs.Kinds.{kind_of}
use Rattle.rec_kinds.specs.Fields.{rule_of}
use Rattle.db_load.specs.declared.bodies.Item.{Item}
use Rattle.db_load.specs.declared.bodies.Item.TheVariants as items
use Rattle.db_load.specs.declared.fault.LoadFault.{LoadFault}
use Rattle.db_load.specs.declared.fault.LoadFault.TheVariants.{SameRecord, UnknownKind, UnknownField, BadForm, NoMemory}
use Rattle.db_load.specs.declared.fault.FormStop.{FormStop}
use Rattle.db_load.specs.declared.fault.FormStop.TheVariants as stops

-- why forms can't be read on: the tokens end, or one of them is at fault
pub data Stop : Type 0 where
  short : Stop
  faulty : LoadFault → Stop

abbrev pub Tokens : Type 0
Tokens = List Token

-- something, and the tokens after it
abbrev pub Read : Type 0 → Type 0
Read A = Result (A × Tokens) Stop

infixl 10 ◌>>=◌
abbrev pub ◌>>=◌ : {A B : Type 0} → Result A Stop → (A → Result B Stop) → Result B Stop
(Ok x) >>= f = f x
(Err e) >>= f = Err e

-- What a function returned, seen by view, is what reading gives; want of memory is free.
abbrev pub Fails : {Y : Type 0} → FormStop → Result Y Stop → Type 0
Fails stops.Short read = read ≡ Err short
Fails (stops.Fault NoMemory) read = Unit {0}
Fails (stops.Fault fault) read = read ≡ Err (faulty fault)

abbrev pub Gives : {X Y : Type 0} → (X → Y) → Result X FormStop → Result Y Stop → Type 0
Gives view (Ok x) read = read ≡ Ok (view x)
Gives view (Err e) read = Fails e read

abbrev pub bad : {A : Type 0} → Token → Result A Stop
bad t = Err (faulty (BadForm t.line))

-- the next token
unfoldable pub next : Tokens → Read Token
next [] = Err short
next (t ∷ rest) = Ok (t, rest)

-- a mark, of which nothing but what follows it is kept
abbrev pub mark_in : ℕ → Token → TokenKind → Tokens → Result Tokens Stop
mark_in b t Mark rest = if bytes_eq t.text (b ∷ []) then Ok rest else bad t
mark_in b t Bare rest = bad t
mark_in b t Quoted rest = bad t
mark_in b t Json rest = bad t

unfoldable pub mark_at : ℕ → Tokens → Result Tokens Stop
mark_at b tokens = next tokens >>= λ t. mark_in b t.0 t.0.kind t.1

-- a kind, a name or a text: bare or in quotes
abbrev pub word_in : Token → TokenKind → Tokens → Read Token
word_in t Bare rest = Ok (t, rest)
word_in t Quoted rest = Ok (t, rest)
word_in t Mark rest = bad t
word_in t Json rest = bad t

unfoldable pub word_at : Tokens → Read Token
word_at tokens = next tokens >>= λ t. word_in t.0 t.0.kind t.1

-- the value of an info, and whether it is JSON
abbrev pub value_in : Token → TokenKind → Tokens → Read (Token × Bool)
value_in t Bare rest = Ok ((t, false), rest)
value_in t Quoted rest = Ok ((t, false), rest)
value_in t Json rest = Ok ((t, true), rest)
value_in t Mark rest = bad t

unfoldable pub value_at : Tokens → Read (Token × Bool)
value_at tokens = next tokens >>= λ t. value_in t.0 t.0.kind t.1

-- The line at which a field's unknown name is told: that of its text, where a comma and a text follow the name, else
-- that of the name itself.
abbrev pub told_at : Token → Tokens → ℕ
told_at name [] = name.line
told_at name (c ∷ []) = name.line
told_at name (c ∷ text ∷ rest) =
    if is_sign c.kind && bytes_eq c.text (44 ∷ []) && is_name text.kind then text.line else name.line

-- a field's name, which this kind must know
abbrev pub known_in : Kind → Token → Tokens → Read Token
known_in kind name rest =
    if is_some (rule_of kind name.text) then Ok (name, rest)
    else Err (faulty (UnknownField name.text (told_at name rest)))

unfoldable pub known_at : Kind → Tokens → Read Token
known_at kind tokens = word_at tokens >>= λ name. known_in kind name.0 name.1

abbrev pub field_of : Token → Token → FieldText
field_of name text = record { name = name.text; text = text.text; line = text.line }

-- `(NAME, text)`
unfoldable pub field_at : Kind → Tokens → Read FieldText
field_at kind tokens =
    mark_at 40 tokens >>= λ a. known_at kind a >>= λ name. mark_at 44 name.1 >>= λ b. word_at b >>= λ text.
    mark_at 41 text.1 >>= λ rest. Ok (field_of name.0 text.0, rest)

abbrev pub info_of : Token → Token × Bool → Info
info_of name value = record { name = name.text; text = value.0.text; json = value.1; line = value.0.line }

-- `(name, value)`
unfoldable pub info_at : Tokens → Read Info
info_at tokens =
    mark_at 40 tokens >>= λ a. word_at a >>= λ name. mark_at 44 name.1 >>= λ b. value_at b >>= λ value.
    mark_at 41 value.1 >>= λ rest. Ok (info_of name.0 value.0, rest)

-- a field or an info of a record, or the brace that closes it
abbrev pub as_field : Read FieldText → Read Item
as_field (Ok f) = Ok (items.Field f.0, f.1)
as_field (Err e) = Err e

abbrev pub as_info : Read Info → Read Item
as_info (Ok i) = Ok (items.Info i.0, i.1)
as_info (Err e) = Err e

unfoldable pub keyword_at : Kind → Token → Tokens → Read Item
keyword_at kind t rest =
    if bytes_eq t.text (codes "field") then as_field (field_at kind rest)
    else if bytes_eq t.text (codes "info") then as_info (info_at rest)
    else bad t

abbrev pub item_in : Kind → Token → TokenKind → Tokens → Read Item
item_in kind t Mark rest = if bytes_eq t.text (125 ∷ []) then Ok (items.Close, rest) else bad t
item_in kind t Bare rest = keyword_at kind t rest
item_in kind t Quoted rest = bad t
item_in kind t Json rest = bad t

unfoldable pub item_at : Kind → Tokens → Read Item
item_at kind tokens = next tokens >>= λ t. item_in kind t.0 t.0.kind t.1

-- the fields and infos of a record
abbrev pub Body : Type 0
Body = List FieldText × List Info

-- fields and infos before those that are read
abbrev pub with_items : Body → Read Body → Read Body
with_items first (Err e) = Err e
with_items first (Ok b) = Ok ((first.0 ++ b.0.0, first.1 ++ b.0.1), b.1)

abbrev pub after_item : (Tokens → Read Body) → Item → Tokens → Read Body
after_item more items.Close rest = Ok (([], []), rest)
after_item more (items.Field f) rest = with_items (f ∷ [], []) (more rest)
after_item more (items.Info i) rest = with_items ([], i ∷ []) (more rest)

-- items up to the closing brace
unfoldable pub body_at : Kind → ℕ → Tokens → Read Body
body_at kind zero tokens = Err short
body_at kind (suc n) tokens = item_at kind tokens >>= λ x. after_item (body_at kind n) x.0 x.1

-- whether a field of this name is among these
abbrev pub is_given : List ℕ → List FieldText → Bool
is_given name [] = false
is_given name (f ∷ fs) = if bytes_eq f.name name then true else is_given name fs

-- of fields that are given twice the last one counts
unfoldable pub last_given : List FieldText → List FieldText
last_given [] = []
last_given (f ∷ fs) = if is_given f.name fs then last_given fs else f ∷ last_given fs

-- what a record's name may not hold: blanks, quotes, `.` and `$`
abbrev pub is_special : ℕ → Bool
is_special b = b == 32 || b == 9 || b == 34 || b == 39 || b == 46 || b == 36

abbrev pub is_record_name : List ℕ → Bool
is_record_name text = nat_le 1 (length text) && nat_le (length text) 60 && list_all (λ b. not (is_special b)) text

abbrev pub is_among : List ℕ → List (List ℕ) → Bool
is_among name [] = false
is_among name (n ∷ ns) = if bytes_eq n name then true else is_among name ns

-- a record's name, which none before it may have
abbrev pub name_in : Bool → Token → Result (List ℕ) Stop
name_in taken t =
    if is_record_name t.text then (if taken then Err (faulty (SameRecord t.text t.line)) else Ok t.text)
    else bad t

abbrev pub kind_in : Token → Option Kind → Result Kind Stop
kind_in t None = Err (faulty (UnknownKind t.text t.line))
kind_in t (Some kind) = Ok kind

-- the word `record`
abbrev pub begin_in : Token → TokenKind → Tokens → Read Token
begin_in t Bare rest = if bytes_eq t.text (codes "record") then Ok (t, rest) else bad t
begin_in t Quoted rest = bad t
begin_in t Mark rest = bad t
begin_in t Json rest = bad t

unfoldable pub begin_at : Tokens → Read Token
begin_at tokens = next tokens >>= λ t. begin_in t.0 t.0.kind t.1

-- `record(kind, name)`: the kind, the name and the line, where the test tells which names are taken
unfoldable pub head_with : (List ℕ → Bool) → Tokens → Read (Kind × List ℕ × ℕ)
head_with taken tokens =
    begin_at tokens >>= λ t. mark_at 40 t.1 >>= λ a. word_at a >>= λ k. kind_in k.0 (kind_of k.0.text) >>= λ kind.
    mark_at 44 k.1 >>= λ b. word_at b >>= λ n. name_in (taken n.0.text) n.0 >>= λ name. mark_at 41 n.1 >>= λ rest.
    Ok ((kind, name, t.0.line), rest)

abbrev pub record_of : Kind × List ℕ × ℕ → Body → RecText
record_of head body = record { kind = head.0; name = head.1; fields = last_given body.0; infos = body.1; line = head.2 }

-- a record, where the test tells which names are taken
unfoldable pub record_with : (List ℕ → Bool) → Tokens → Read RecText
record_with taken tokens =
    head_with taken tokens >>= λ h. mark_at 123 h.1 >>= λ a. body_at h.0.0 (length a + 1) a >>= λ body.
    Ok (record_of h.0 body.0, body.1)

abbrev pub then_records : RecText → Result (List RecText) Stop → Result (List RecText) Stop
then_records r (Ok rs) = Ok (r ∷ rs)
then_records r (Err e) = Err e

-- all records of a text, after records of these names
unfoldable pub records_from : ℕ → List (List ℕ) → Tokens → Result (List RecText) Stop
records_from n names [] = Ok []
records_from zero names (t ∷ rest) = Ok []
records_from (suc n) names (t ∷ rest) =
    record_with (λ name. is_among name names) (t ∷ rest) >>= λ r.
    then_records r.0 (records_from n (r.0.name ∷ names) r.1)
