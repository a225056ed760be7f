-- The grammar of records: forms, each with the tokens that it is written with (EPICS IOC Application Developer's Guide,
-- "Database Definition", `record`, `field`, `info`).
use Rattle.std.specs.Prelude.{◌≡◌, ℕ, Bool, true, false, List, [], ◌∷◌, ◌++◌, Some, is_some, codes}
use Rattle.db_text.specs.Grammar.{is_name}
use Rattle.db_text.specs.declared.token.Token.{Token}
use Rattle.db_text.specs.declared.token.TokenKind.{TokenKind}
use Rattle.db_text.specs.declared.token.TokenKind.TheVariants.{Bare, Quoted, Mark, Json}
use Rattle.rec_kinds.specs.declared.kind.Kind.{Kind}
use Rattle.rec_kinds.specs.declared.record_text.FieldText.{FieldText}
use Rattle.rec_kinds.specs.declared.record_text.Info.{Info}
use Rattle.rec_kinds.specs.declared.record_text.RecText.{RecText}
use Rattle.rec_kinds.specs.Kinds.{kind_of}
use Rattle.rec_kinds.specs.Fields.{rule_of}
use Rattle.db_load.specs.Forms.{last_given, is_record_name, is_among}

-- a bare word, a mark, a kind or name or text, and the value of an info
abbrev pub IsWord : List ℕ → Token → Type 0
IsWord word t = (t.kind ≡ Bare) × (t.text ≡ word)

abbrev pub IsMark : ℕ → Token → Type 0
IsMark b t = (t.kind ≡ Mark) × (t.text ≡ b ∷ [])

abbrev pub IsText : Token → Type 0
IsText t = is_name t.kind ≡ true

abbrev pub is_value : TokenKind → Bool
is_value Bare = true
is_value Quoted = true
is_value Json = true
is_value Mark = false

abbrev pub is_json : TokenKind → Bool
is_json Json = true
is_json Bare = false
is_json Quoted = false
is_json Mark = false

-- The six tokens of `field(NAME, text)` or `info(NAME, value)`.
pub data Part : Type 0 where
  field : Token → Token → Token → Token → Token → Token → Part
  info : Token → Token → Token → Token → Token → Token → Part

abbrev pub parts_tokens : List Part → List Token
parts_tokens [] = []
parts_tokens (field w o n c t e ∷ ps) = w ∷ o ∷ n ∷ c ∷ t ∷ e ∷ parts_tokens ps
parts_tokens (info w o n c v e ∷ ps) = w ∷ o ∷ n ∷ c ∷ v ∷ e ∷ parts_tokens ps

-- parts of a record of this kind
abbrev pub AreParts : Kind → List Part → Type 0
AreParts kind [] = Unit {0}
AreParts kind (field w o n c t e ∷ ps) =
    IsWord (codes "field") w × IsMark 40 o × IsText n × IsMark 44 c × IsText t × (is_some (rule_of kind n.text) ≡ true)
    × IsMark 41 e × AreParts kind ps
AreParts kind (info w o n c v e ∷ ps) =
    IsWord (codes "info") w × IsMark 40 o × IsText n × IsMark 44 c × (is_value v.kind ≡ true) × IsMark 41 e
    × AreParts kind ps

abbrev pub fields_of : List Part → List FieldText
fields_of [] = []
fields_of (field w o n c t e ∷ ps) = record { name = n.text; text = t.text; line = t.line } ∷ fields_of ps
fields_of (info w o n c v e ∷ ps) = fields_of ps

abbrev pub infos_of : List Part → List Info
infos_of [] = []
infos_of (field w o n c t e ∷ ps) = infos_of ps
infos_of (info w o n c v e ∷ ps) =
    record { name = n.text; text = v.text; json = is_json v.kind; line = v.line } ∷ infos_of ps

-- `record(kind, name) {`
pub record Head : Type 0 where
  pub word : Token
  pub opens : Token
  pub kind : Token
  pub comma : Token
  pub name : Token
  pub closes : Token
  pub brace : Token

abbrev pub head_tokens : Head → List Token → List Token
head_tokens h rest = h.word ∷ h.opens ∷ h.kind ∷ h.comma ∷ h.name ∷ h.closes ∷ h.brace ∷ rest

-- The head of a record of this kind, whose name none of these is.
pub record IsHead (names : List (List ℕ)) (k : Kind) (h : Head) : Type 0 where
  pub word_is : IsWord (codes "record") h.word
  pub opens_is : IsMark 40 h.opens
  pub kind_text : IsText h.kind
  pub kind_is : kind_of h.kind.text ≡ Some k
  pub comma_is : IsMark 44 h.comma
  pub name_text : IsText h.name
  pub name_may : is_record_name h.name.text ≡ true
  pub name_new : is_among h.name.text names ≡ false
  pub closes_is : IsMark 41 h.closes
  pub brace_is : IsMark 123 h.brace

-- `record(kind, name) { parts }`
pub record Form : Type 0 where
  pub head : Head
  pub parts : List Part
  pub end : Token

abbrev pub form_tokens : Form → List Token → List Token
form_tokens f rest = head_tokens f.head (parts_tokens f.parts ++ f.end ∷ rest)

pub record IsForm (names : List (List ℕ)) (k : Kind) (f : Form) : Type 0 where
  pub head_is : IsHead names k f.head
  pub parts_are : AreParts k f.parts
  pub end_is : IsMark 125 f.end

-- the record; of fields that are given twice the last one counts
abbrev pub record_is : Kind → Form → RecText
record_is k f =
    record {
      kind = k;
      name = f.head.name.text;
      fields = last_given (fields_of f.parts);
      infos = infos_of f.parts;
      line = f.head.word.line;
    }

-- These are the records of tokens, after records of these names.
abbrev pub RecordsAfter : List (List ℕ) → List Token → List RecText → Type 0
RecordsAfter names tokens [] = tokens ≡ []
RecordsAfter names tokens (r ∷ rs) =
    (k : Kind) × (f : Form) × (rest : List Token) × (tokens ≡ form_tokens f rest) × IsForm names k f
    × (r ≡ record_is k f) × RecordsAfter (f.head.name.text ∷ names) rest rs

abbrev pub Records : List Token → List RecText → Type 0
Records tokens records = RecordsAfter [] tokens records
