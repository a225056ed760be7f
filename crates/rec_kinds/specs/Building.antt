-- What a text's fields make of a record, and which of them is at fault first (EPICS record reference).
use Rattle.std.specs.Prelude.{ℕ, ◌-◌, ℤ, pos, nat_le, unsigned_abs, Bool, true, false, not, ◌||◌, List, [], ◌∷◌, length, map, Option, None, Some, codes, ⊤, ◌≡◌, if◌then◌else◌}
use Rattle.std.specs.Option.{option_or, option_map, is_some}
use Rattle.std.specs.Ordering.{int_eq}
use Rattle.rec_kinds.specs.Alarms.{alarm_of}
use Rattle.rec_kinds.specs.ChoiceFields.{severity_names}
use Rattle.rec_kinds.specs.Choices.{severity_of, element_of}
use Rattle.rec_kinds.specs.Configs.{Config}
use Rattle.rec_kinds.specs.Fields.{rule_of}
use Rattle.rec_kinds.specs.Given.{text_of, told, text_told, number_told, severity_told, element_told, choices_told, path_in, is_file, port_told}
use Rattle.rec_kinds.specs.Moments.{never}
use Rattle.rec_kinds.specs.Numbers.{number_of, number_in}
use Rattle.rec_kinds.specs.Processing.{state_with}
use Rattle.rec_kinds.specs.Ranges.{int64, uint16, flag, element_count}
use Rattle.rec_kinds.specs.Validity.{index_bound}
use Rattle.rec_kinds.specs.declared.kind.Kind.{Kind}
use Rattle.rec_kinds.specs.declared.kind.Kind.TheVariants as kinds
use Rattle.rec_kinds.specs.declared.field.Rule.{Rule}
use Rattle.rec_kinds.specs.declared.field.Rule.TheVariants as rules
use Rattle.rec_kinds.specs.declared.element.Element.{Element}
use Rattle.rec_kinds.specs.declared.element.Element.TheVariants as elements
use Rattle.rec_kinds.specs.declared.datum.Datum.{Datum}
use Rattle.rec_kinds.specs.declared.datum.Datum.TheVariants.{Num, Index, Text, Nums, Texts}
use Rattle.rec_kinds.specs.declared.record_text.FieldText.{FieldText}
use Rattle.rec_kinds.specs.declared.state.RecState.{RecState}
use Rattle.rec_kinds.specs.declared.fault.Cause.{Cause}
use Rattle.rec_kinds.specs.declared.fault.Cause.TheVariants as causes
use Rattle.rec_kinds.specs.declared.fault.BuildFault.{BuildFault}
use Rattle.rec_kinds.specs.declared.fault.BuildFault.TheVariants.{BadNumber, BadChoice, BadLength, BadPort, NoMemory}

-- a number of 64 bits, and 0 where none is told
abbrev pub limit_told : Kind → List FieldText → List ℕ → ℤ
limit_told kind fields name = number_told kind fields name int64.0 int64.1 (pos 0)

-- The configuration that the fields make. What isn't given is 0, empty, no alarm, texts, or one element.
abbrev pub config_of : Kind → List FieldText → Config
config_of kind fields = record {
  kind = kind;
  desc = text_told kind fields (codes "DESC");
  disabled = int_eq (number_told kind fields (codes "DISP") flag.0 flag.1 (pos 0)) (pos 1);
  port = port_told kind fields;
  hihi = limit_told kind fields (codes "HIHI");
  high = limit_told kind fields (codes "HIGH");
  low = limit_told kind fields (codes "LOW");
  lolo = limit_told kind fields (codes "LOLO");
  hhsv = severity_told kind fields (codes "HHSV");
  hsv = severity_told kind fields (codes "HSV");
  lsv = severity_told kind fields (codes "LSV");
  llsv = severity_told kind fields (codes "LLSV");
  drvh = limit_told kind fields (codes "DRVH");
  drvl = limit_told kind fields (codes "DRVL");
  choices = choices_told kind fields;
  severities = map (severity_told kind fields) (severity_names kind);
  ftvl = element_told kind fields;
  nelm = unsigned_abs (number_told kind fields (codes "NELM") element_count.0 element_count.1 (pos 1));
}

-- an empty list of elements of this type
abbrev pub empty_list : Element → Datum
empty_list elements.Text = Texts []
empty_list _ = Nums []

abbrev pub index_told : Kind → List FieldText → ℕ
index_told kind fields = unsigned_abs (number_told kind fields (codes "VAL") uint16.0 uint16.1 (pos 0))

-- what the record opens with: its field VAL, or else 0 or the empty text; a list is empty
abbrev pub opening_datum : Kind → List FieldText → Datum
opening_datum kinds.Longin fields = Num (limit_told kinds.Longin fields (codes "VAL"))
opening_datum kinds.Longout fields = Num (limit_told kinds.Longout fields (codes "VAL"))
opening_datum kinds.Int64in fields = Num (limit_told kinds.Int64in fields (codes "VAL"))
opening_datum kinds.Int64out fields = Num (limit_told kinds.Int64out fields (codes "VAL"))
opening_datum kinds.Bi fields = Index (index_told kinds.Bi fields)
opening_datum kinds.Bo fields = Index (index_told kinds.Bo fields)
opening_datum kinds.Mbbi fields = Index (index_told kinds.Mbbi fields)
opening_datum kinds.Mbbo fields = Index (index_told kinds.Mbbo fields)
opening_datum kinds.Stringin fields = Text (text_told kinds.Stringin fields (codes "VAL"))
opening_datum kinds.Stringout fields = Text (text_told kinds.Stringout fields (codes "VAL"))
opening_datum kinds.Waveform fields = empty_list (element_told kinds.Waveform fields)

-- a record that could be given VAL and isn't is undefined
abbrev pub opens_undefined : Kind → List FieldText → Bool
opens_undefined kinds.Waveform fields = false
opens_undefined kind fields = not (is_some (told kind fields (codes "VAL")))

-- the state of a record that was never processed: its alarm is that of a record whose port took the value
abbrev pub opening : Config → Datum → Bool → RecState
opening config datum undefined = state_with datum undefined (alarm_of config datum undefined true) never (pos 0)

abbrev pub opening_of : Kind → List FieldText → RecState
opening_of kind fields = opening (config_of kind fields) (opening_datum kind fields) (opens_undefined kind fields)

abbrev pub unless : Bool → Cause → Option Cause
unless good cause = if good then None else Some cause

abbrev pub count_fault : ℤ → ℤ → List ℕ → Option Cause
count_fault low high text =
    if is_some (number_of text) then unless (is_some (number_in low high text)) causes.Length else Some causes.Number

-- what is wrong with the text of a field that is read by this rule
abbrev pub misread : Kind → List FieldText → List ℕ → Option Rule → Option Cause
misread kind fields text None = None
misread kind fields text (Some rules.Unread) = None
misread kind fields text (Some rules.Any) = None
misread kind fields text (Some (rules.Text most)) = unless (nat_le (length text) most) causes.Length
misread kind fields text (Some (rules.Number low high)) = unless (is_some (number_in low high text)) causes.Number
misread kind fields text (Some (rules.Count low high)) = count_fault low high text
misread kind fields text (Some rules.Index) =
    unless (is_some (number_in (pos 0) (pos (index_bound (choices_told kind fields) - 1)) text)) causes.Number
misread kind fields text (Some rules.Severity) = unless (is_some (severity_of text)) causes.Choice
misread kind fields text (Some rules.Element) = unless (is_some (element_of text)) causes.Choice
misread kind fields text (Some rules.Device) =
    unless (not (is_file (Some text)) || is_some (text_of fields (codes "OUT"))) causes.Port
misread kind fields text (Some rules.Path) =
    unless (not (is_file (text_of fields (codes "DTYP"))) || is_some (path_in text)) causes.Port

-- a fault names its field and the line of its text
abbrev pub fault : FieldText → Cause → BuildFault
fault f causes.Number = BadNumber (record { name = f.name; line = f.line })
fault f causes.Choice = BadChoice (record { name = f.name; line = f.line })
fault f causes.Length = BadLength (record { name = f.name; line = f.line })
fault f causes.Port = BadPort (record { name = f.name; line = f.line })

abbrev pub fault_of : Kind → List FieldText → FieldText → Option BuildFault
fault_of kind fields f = option_map (fault f) (misread kind fields f.text (rule_of kind f.name))

-- the first fault of some of the fields, of which one that is given again counts there alone
abbrev pub first_fault : Kind → List FieldText → List FieldText → Option BuildFault
first_fault kind fields [] = None
first_fault kind fields (f ∷ fs) =
    option_or (if is_some (text_of fs f.name) then None else fault_of kind fields f) (first_fault kind fields fs)

-- the first fault in the order of the text
abbrev pub build_fault : Kind → List FieldText → Option BuildFault
build_fault kind fields = first_fault kind fields fields

-- what a refusal says: memory ran out, or this is the first fault
abbrev pub IsBuildFault : Kind → List FieldText → BuildFault → Type 0
IsBuildFault kind fields NoMemory = ⊤
IsBuildFault kind fields found = build_fault kind fields ≡ Some found
