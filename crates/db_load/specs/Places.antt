-- Where forms stop: the first token, from the left, at which no form goes on, and why (EPICS IOC Application
-- Developer's Guide, "Database Definition", `record`, `field`, `info`).
use Rattle.std.specs.Prelude.{◌≡◌, ◌≢◌, ◌⊎◌, ◌<◌, ℕ, Bool, not, ◌&&◌, List, [], ◌∷◌, ◌++◌, length, Option, Some, None}
use Rattle.std.specs.Prelude.{is_some, codes, if◌then◌else◌}
use Rattle.std.specs.Str.{bytes_eq}
use Rattle.db_text.specs.Grammar.{is_bare, is_sign, is_name}
use Rattle.db_text.specs.declared.token.Token.{Token}
use Rattle.db_text.specs.declared.fault.TextFault.{TextFault}
use Rattle.rec_kinds.specs.declared.kind.Kind.{Kind}
use Rattle.rec_kinds.specs.declared.record_text.RecText.{RecText}
use Rattle.rec_kinds.specs.Kinds.{kind_of}
use Rattle.rec_kinds.specs.Fields.{rule_of}
use Rattle.db_load.specs.declared.fault.LoadFault.{LoadFault}
use Rattle.db_load.specs.declared.fault.LoadFault.TheVariants.{Text, SameRecord, UnknownKind, UnknownField, BadForm}
use Rattle.db_load.specs.declared.fault.LoadFault.TheVariants.{Count}
use Rattle.db_load.specs.Forms.{Stop, short, faulty, told_at, is_record_name, is_among}
use Rattle.db_load.specs.Grammar.{IsWord, IsMark, is_value, Part, parts_tokens, AreParts, Head, head_tokens, IsHead}
use Rattle.db_load.specs.Grammar.{Form, form_tokens, IsForm, Records}

-- A place in a form: what is wrong with a token that stands there, in front of these, if anything.
abbrev pub Place : Type 0
Place = Token → List Token → Option LoadFault

abbrev pub unless : Bool → LoadFault → Option LoadFault
unless holds fault = if holds then None else Some fault

abbrev pub the_word : List ℕ → Place
the_word word t rest = unless (is_bare t.kind && bytes_eq t.text word) (BadForm t.line)

abbrev pub the_mark : ℕ → Place
the_mark b t rest = unless (is_sign t.kind && bytes_eq t.text (b ∷ [])) (BadForm t.line)

abbrev pub a_text : Place
a_text t rest = unless (is_name t.kind) (BadForm t.line)

abbrev pub a_value : Place
a_value t rest = unless (is_value t.kind) (BadForm t.line)

abbrev pub a_kind : Place
a_kind t rest =
    if is_name t.kind then unless (is_some (kind_of t.text)) (UnknownKind t.text t.line) else Some (BadForm t.line)

-- a record's name, which none of these is
abbrev pub a_name : List (List ℕ) → Place
a_name names t rest =
    if is_name t.kind && is_record_name t.text then unless (not (is_among t.text names)) (SameRecord t.text t.line)
    else Some (BadForm t.line)

-- The name of a field, which this kind must know, whatever follows it. Only the line goes by what follows.
abbrev pub a_field : Kind → Place
a_field kind t rest =
    if is_name t.kind then unless (is_some (rule_of kind t.text)) (UnknownField t.text (told_at t rest))
    else Some (BadForm t.line)

-- `record(KIND, NAME) {`; `field(NAME, text)`; `info(NAME, value)`
abbrev pub head_places : List (List ℕ) → List Place
head_places names =
    the_word (codes "record") ∷ the_mark 40 ∷ a_kind ∷ the_mark 44 ∷ a_name names ∷ the_mark 41 ∷ the_mark 123 ∷ []

abbrev pub field_places : Kind → List Place
field_places kind =
    the_word (codes "field") ∷ the_mark 40 ∷ a_field kind ∷ the_mark 44 ∷ a_text ∷ the_mark 41 ∷ []

abbrev pub info_places : List Place
info_places = the_word (codes "info") ∷ the_mark 40 ∷ a_text ∷ the_mark 44 ∷ a_value ∷ the_mark 41 ∷ []

-- Tokens stand in places, up to one with which something is wrong, or up to their end, which comes too early.
abbrev pub StopsIn : List Place → List Token → Stop → Type 0
StopsIn [] tokens stop = ⊥
StopsIn (p ∷ ps) [] stop = stop ≡ short
StopsIn (p ∷ ps) (t ∷ ts) stop =
    ((fault : LoadFault) × (p t ts ≡ Some fault) × (stop ≡ faulty fault)) ⊎ ((p t ts ≡ None) × StopsIn ps ts stop)

-- In a record's braces, behind whole parts: a field, or an info, stops; or a token begins neither, nor ends the record.
abbrev pub PartStops : Kind → List Token → Stop → Type 0
PartStops kind [] stop = stop ≡ short
PartStops kind (t ∷ ts) stop =
    (IsWord (codes "field") t × StopsIn (field_places kind) (t ∷ ts) stop)
    ⊎ ((IsWord (codes "info") t × StopsIn info_places (t ∷ ts) stop)
    ⊎ ((IsWord (codes "field") t → ⊥) × (IsWord (codes "info") t → ⊥) × (IsMark 125 t → ⊥)
    × (stop ≡ faulty (BadForm t.line))))

-- A record stops in its head, or in its braces.
abbrev pub FormStops : List (List ℕ) → List Token → Stop → Type 0
FormStops names tokens stop =
    StopsIn (head_places names) tokens stop
    ⊎ ((k : Kind) × (h : Head) × (parts : List Part) × (rest : List Token)
    × (tokens ≡ head_tokens h (parts_tokens parts ++ rest)) × IsHead names k h × AreParts k parts × PartStops k rest stop)

-- Behind these whole records the next one stops.
abbrev pub StopsBehind : List (List ℕ) → List Form → List Token → Stop → Type 0
StopsBehind names [] tokens stop = (tokens ≢ []) × FormStops names tokens stop
StopsBehind names (f ∷ fs) tokens stop =
    (k : Kind) × (rest : List Token) × (tokens ≡ form_tokens f rest) × IsForm names k f
    × StopsBehind (f.head.name.text ∷ names) fs rest stop

abbrev pub FormsStop : List Token → Stop → Type 0
FormsStop tokens stop = (forms : List Form) × StopsBehind [] forms tokens stop

-- The first fault of tokens, of the fault that ended them, if any, and of their count: that of a form; else that behind
-- the tokens; else forms that the text's end cuts off, on this line; else the count.
abbrev pub FaultOf : ℕ → List Token → Option TextFault → LoadFault → Type 0
FaultOf end tokens (Some stop) fault =
    FormsStop tokens (faulty fault)
    ⊎ ((FormsStop tokens short ⊎ ((records : List RecText) × Records tokens records)) × (fault ≡ Text stop))
FaultOf end tokens None fault =
    FormsStop tokens (faulty fault)
    ⊎ ((FormsStop tokens short × (fault ≡ BadForm end))
    ⊎ ((records : List RecText) × Records tokens records × ((length records ≡ 0) ⊎ (4000 < length records))
    × (fault ≡ Count (length records))))
