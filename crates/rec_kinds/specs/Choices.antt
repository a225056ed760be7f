-- The names of severities and of the types of elements (EPICS record reference, "Alarm Specification", "waveform").
use Rattle.std.specs.Prelude.{ℕ, List, [], ◌∷◌, Option, codes}
use Rattle.rec_kinds.specs.Named.{first_named}
use Rattle.rec_kinds.specs.declared.severity.Severity.{Severity}
use Rattle.rec_kinds.specs.declared.severity.Severity.TheVariants.{NoAlarm, Minor, Major, Invalid}
use Rattle.rec_kinds.specs.declared.element.Element.{Element}
use Rattle.rec_kinds.specs.declared.element.Element.TheVariants.{Text, I8, U8, I16, U16, I32, U32, I64, U64}

abbrev pub severity_of : List ℕ → Option Severity
severity_of name =
    first_named name (
    (codes "NO_ALARM", NoAlarm) ∷ (codes "MINOR", Minor) ∷ (codes "MAJOR", Major) ∷ (codes "INVALID", Invalid) ∷ [])

abbrev pub element_of : List ℕ → Option Element
element_of name =
    first_named name (
    (codes "STRING", Text) ∷
    (codes "CHAR", I8) ∷ (codes "UCHAR", U8) ∷
    (codes "SHORT", I16) ∷ (codes "USHORT", U16) ∷
    (codes "LONG", I32) ∷ (codes "ULONG", U32) ∷
    (codes "INT64", I64) ∷ (codes "UINT64", U64) ∷ [])
