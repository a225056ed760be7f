-- What a text says of a record's fields. A field that is given twice counts where it stands last.
use Rattle.std.specs.Prelude.{ℕ, ◌+◌, ◌==◌, ◌&&◌, ℤ, nat_eq, nat_lt, Bool, true, false, List, [], ◌∷◌, length, map, take, drop, Option, None, Some, codes, if◌then◌else◌}
use Rattle.std.specs.List.{starts_with}
use Rattle.std.specs.Option.{option_or, option_and_then, unwrap_or}
use Rattle.std.specs.Str.{bytes_eq}
use Rattle.rec_kinds.specs.ChoiceFields.{choice_names}
use Rattle.rec_kinds.specs.Fields.{rule_of}
use Rattle.rec_kinds.specs.Numbers.{number_in}
use Rattle.rec_kinds.specs.Choices.{severity_of, element_of}
use Rattle.rec_kinds.specs.declared.kind.Kind.{Kind}
use Rattle.rec_kinds.specs.declared.kind.Kind.TheVariants.{Mbbi, Mbbo}
use Rattle.rec_kinds.specs.declared.field.Rule.{Rule}
use Rattle.rec_kinds.specs.declared.field.Rule.TheVariants.{Unread}
use Rattle.rec_kinds.specs.declared.element.Element.{Element}
use Rattle.rec_kinds.specs.declared.element.Element.TheVariants.{Text}
use Rattle.rec_kinds.specs.declared.severity.Severity.{Severity}
use Rattle.rec_kinds.specs.declared.severity.Severity.TheVariants.{NoAlarm}
use Rattle.rec_kinds.specs.declared.record_text.FieldText.{FieldText}

-- the text that a field is given last
abbrev pub text_of : List FieldText → List ℕ → Option (List ℕ)
text_of [] name = None
text_of (f ∷ fs) name = option_or (text_of fs name) (if bytes_eq f.name name then Some f.text else None)

abbrev pub has_effect : Option Rule → Bool
has_effect None = false
has_effect (Some Unread) = false
has_effect (Some rule) = true

-- the text of a field that has an effect
abbrev pub told : Kind → List FieldText → List ℕ → Option (List ℕ)
told kind fields name = if has_effect (rule_of kind name) then text_of fields name else None

-- such a text, and the empty one where there is none
abbrev pub text_told : Kind → List FieldText → List ℕ → List ℕ
text_told kind fields name = unwrap_or (told kind fields name) []

-- the number of a range that it spells, and else a given one
abbrev pub number_told : Kind → List FieldText → List ℕ → ℤ → ℤ → ℤ → ℤ
number_told kind fields name low high other =
    unwrap_or (option_and_then (number_in low high) (told kind fields name)) other

-- the severity of this name, and else none
abbrev pub severity_told : Kind → List FieldText → List ℕ → Severity
severity_told kind fields name = unwrap_or (option_and_then severity_of (told kind fields name)) NoAlarm

-- the type of this name, and else that of texts
abbrev pub element_told : Kind → List FieldText → Element
element_told kind fields = unwrap_or (option_and_then element_of (told kind fields (codes "FTVL"))) Text

-- how many texts there are up to the last that isn't empty
abbrev pub up_to_last : List (List ℕ) → ℕ
up_to_last [] = 0
up_to_last (t ∷ ts) = if (up_to_last ts == 0) && (length t == 0) then 0 else up_to_last ts + 1

-- how many of a kind's choices there are: both of two, and of sixteen those up to the last that isn't empty
abbrev pub choices_kept : Kind → List (List ℕ) → ℕ
choices_kept Mbbi texts = up_to_last texts
choices_kept Mbbo texts = up_to_last texts
choices_kept _ texts = length texts

abbrev pub all_choices : Kind → List FieldText → List (List ℕ)
all_choices kind fields = map (text_told kind fields) (choice_names kind)

abbrev pub choices_told : Kind → List FieldText → List (List ℕ)
choices_told kind fields = take (choices_kept kind (all_choices kind fields)) (all_choices kind fields)

-- the path after `@file` and a blank, where there is one
abbrev pub path_in : List ℕ → Option (List ℕ)
path_in text = if starts_with nat_eq text (codes "@file ") && nat_lt 6 (length text) then Some (drop 6 text) else None

abbrev pub is_file : Option (List ℕ) → Bool
is_file None = false
is_file (Some device) = bytes_eq device (codes "File")

-- where the port leads, which a record has where its device is `File`
abbrev pub port_told : Kind → List FieldText → Option (List ℕ)
port_told kind fields =
    if is_file (told kind fields (codes "DTYP")) then option_and_then path_in (told kind fields (codes "OUT"))
    else None
