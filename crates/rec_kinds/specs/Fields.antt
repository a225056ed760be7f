-- The fields of records, and how their texts are read (EPICS record reference).
use Rattle.std.specs.Prelude.{ℕ, List, [], ◌∷◌, Option, None, Some, codes, if◌then◌else◌}
use Rattle.std.specs.Option.{option_or}
use Rattle.std.specs.Str.{bytes_eq}
use Rattle.rec_kinds.specs.ChoiceFields.{choice_names, severity_names}
use Rattle.rec_kinds.specs.Named.{first_named}
use Rattle.rec_kinds.specs.Ranges.{Range, int32, int64, flag, element_count, text_bytes, desc_bytes}
use Rattle.rec_kinds.specs.declared.kind.Kind.{Kind}
use Rattle.rec_kinds.specs.declared.kind.Kind.TheVariants.{Longin, Longout, Int64in, Int64out, Bi, Bo, Mbbi, Mbbo, Stringin, Stringout, Waveform}
use Rattle.rec_kinds.specs.declared.field.Rule.{Rule}
use Rattle.rec_kinds.specs.declared.field.Rule.TheVariants.{Unread, Any, Text, Number, Count, Index, Severity, Element, Device, Path}

abbrev pub Rows : Type 0
Rows = List (List ℕ × Rule)

-- a number of a range
abbrev pub ranged : Range → Rule
ranged range = Number range.0 range.1

-- the fields that every kind has
abbrev pub every : Rows
every =
    (codes "DESC", Text desc_bytes) ∷ (codes "DISP", ranged flag) ∷ []

-- the fields that every kind takes without effect
abbrev pub unread : Rows
unread =
    (codes "DTYP", Unread) ∷ (codes "OUT", Unread) ∷ (codes "SCAN", Unread) ∷ (codes "PINI", Unread) ∷
    (codes "PHAS", Unread) ∷ (codes "EVNT", Unread) ∷ (codes "PRIO", Unread) ∷ (codes "TSE", Unread) ∷
    (codes "TSEL", Unread) ∷ (codes "DISV", Unread) ∷ (codes "DISA", Unread) ∷ (codes "SDIS", Unread) ∷
    (codes "DISS", Unread) ∷ (codes "FLNK", Unread) ∷ (codes "INP", Unread) ∷ (codes "EGU", Unread) ∷
    (codes "PREC", Unread) ∷ (codes "HOPR", Unread) ∷ (codes "LOPR", Unread) ∷ (codes "HYST", Unread) ∷
    (codes "ADEL", Unread) ∷ (codes "MDEL", Unread) ∷ (codes "ASG", Unread) ∷ (codes "OMSL", Unread) ∷
    (codes "DOL", Unread) ∷ (codes "IVOA", Unread) ∷ (codes "IVOV", Unread) ∷ (codes "SIOL", Unread) ∷
    (codes "SIML", Unread) ∷ (codes "SIMS", Unread) ∷ (codes "SVAL", Unread) ∷ (codes "NOBT", Unread) ∷
    (codes "SHFT", Unread) ∷ (codes "MASK", Unread) ∷ (codes "TPRO", Unread) ∷ (codes "ACKT", Unread) ∷
    (codes "APST", Unread) ∷ (codes "MPST", Unread) ∷ (codes "COSV", Unread) ∷ (codes "UNSV", Unread) ∷
    (codes "RVAL", Unread) ∷ (codes "ZRVL", Unread) ∷ (codes "ONVL", Unread) ∷ (codes "TWVL", Unread) ∷
    (codes "THVL", Unread) ∷ (codes "FRVL", Unread) ∷ (codes "FVVL", Unread) ∷ (codes "SXVL", Unread) ∷
    (codes "SVVL", Unread) ∷ (codes "EIVL", Unread) ∷ (codes "NIVL", Unread) ∷ (codes "TEVL", Unread) ∷
    (codes "ELVL", Unread) ∷ (codes "TVVL", Unread) ∷ (codes "TTVL", Unread) ∷ (codes "FTVL", Unread) ∷
    (codes "FFVL", Unread) ∷ []

-- the value of a number of this range and its alarms
abbrev pub numeric : Range → Rows
numeric range =
    (codes "VAL", ranged range) ∷ (codes "HIHI", ranged range) ∷ (codes "HIGH", ranged range) ∷
    (codes "LOW", ranged range) ∷ (codes "LOLO", ranged range) ∷ (codes "HHSV", Severity) ∷ (codes "HSV", Severity) ∷
    (codes "LSV", Severity) ∷ (codes "LLSV", Severity) ∷ []

-- the limits of what is put into such a number
abbrev pub drive : Range → Rows
drive range =
    (codes "DRVH", ranged range) ∷ (codes "DRVL", ranged range) ∷ []

-- the value of one of two
abbrev pub two : Rows
two =
    (codes "VAL", ranged flag) ∷ []

-- what a bo takes without effect besides
abbrev pub bo_unread : Rows
bo_unread =
    (codes "HIGH", Unread) ∷ []

-- the value of one of up to sixteen
abbrev pub sixteen : Rows
sixteen =
    (codes "VAL", Index) ∷ []

-- the value of a text
abbrev pub text : Rows
text =
    (codes "VAL", Text text_bytes) ∷ []

-- the elements of a list
abbrev pub elements : Rows
elements =
    (codes "FTVL", Element) ∷ (codes "NELM", Count element_count.0 element_count.1) ∷ []

-- the port of a record that has one
abbrev pub port : Rows
port =
    (codes "DTYP", Device) ∷ (codes "OUT", Path) ∷ []

-- a rule for each of these names
abbrev pub listed : Rule → List (List ℕ) → List ℕ → Option Rule
listed rule [] name = None
listed rule (other ∷ others) name = if bytes_eq other name then Some rule else listed rule others name

-- a kind's choices are any texts, and have severities
abbrev pub choice_rule : Kind → List ℕ → Option Rule
choice_rule kind name = option_or (listed Any (choice_names kind) name) (listed Severity (severity_names kind) name)

-- a kind's own fields
abbrev pub own_rule : Kind → List ℕ → Option Rule
own_rule Longin name = first_named name (numeric int32)
own_rule Longout name =
    option_or (option_or (first_named name (numeric int32)) (first_named name (drive int32))) (first_named name port)
own_rule Int64in name = first_named name (numeric int64)
own_rule Int64out name =
    option_or (option_or (first_named name (numeric int64)) (first_named name (drive int64))) (first_named name port)
own_rule Bi name = option_or (first_named name two) (choice_rule Bi name)
own_rule Bo name =
    option_or (option_or (option_or (first_named name two) (choice_rule Bo name)) (first_named name bo_unread))
    (first_named name port)
own_rule Mbbi name = option_or (first_named name sixteen) (choice_rule Mbbi name)
own_rule Mbbo name = option_or (option_or (first_named name sixteen) (choice_rule Mbbo name)) (first_named name port)
own_rule Stringin name = first_named name text
own_rule Stringout name = option_or (first_named name text) (first_named name port)
own_rule Waveform name = first_named name elements

-- How the text of a kind's field is read: a kind's own field first, then one that every kind has, or takes without
-- effect.
abbrev pub rule_of : Kind → List ℕ → Option Rule
rule_of kind name = option_or (option_or (own_rule kind name) (first_named name every)) (first_named name unread)
