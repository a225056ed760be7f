-- The alarms of records (EPICS record reference, "Alarm Specification").
use Rattle.std.specs.Prelude.{ℕ, ℤ, Bool, false, ◌&&◌, List, [], ◌∷◌, codes, slice_get, int_le, not, if◌then◌else◌}
use Rattle.std.specs.Option.{unwrap_or}
use Rattle.rec_kinds.specs.Configs.{Config}
use Rattle.rec_kinds.specs.Severities.{is_alarm}
use Rattle.rec_kinds.specs.declared.severity.Severity.{Severity}
use Rattle.rec_kinds.specs.declared.severity.Severity.TheVariants.{NoAlarm, Invalid}
use Rattle.rec_kinds.specs.declared.severity.Status.{Status}
use Rattle.rec_kinds.specs.declared.severity.Status.TheVariants.{NoStatus, Device, Driver, Undefined}
use Rattle.rec_kinds.specs.declared.datum.Datum.{Datum}
use Rattle.rec_kinds.specs.declared.datum.Datum.TheVariants.{Num, Index}

pub record Alarm : Type 0 where
  pub severity : Severity
  pub status : Status
  pub message : List ℕ

-- a row of a table of alarms: an alarm, and whether it is there
abbrev pub Row : Type 0
Row = Bool × Alarm

abbrev pub row : Bool → Severity → Status → List ℕ → Row
row holds severity status message = (holds, record { severity = severity; status = status; message = message })

-- the alarm of the first row that holds
abbrev pub first_alarm : List Row → Alarm
first_alarm [] = record { severity = NoAlarm; status = NoStatus; message = [] }
first_alarm (r ∷ rs) = if r.0 then r.1 else first_alarm rs

-- whether a number is at or above a limit, and at or below one
abbrev pub at_least : ℤ → Datum → Bool
at_least limit (Num n) = int_le limit n
at_least limit _ = false

abbrev pub at_most : ℤ → Datum → Bool
at_most limit (Num n) = int_le n limit
at_most limit _ = false

-- the severity of an index
abbrev pub state_severity : List Severity → Datum → Severity
state_severity severities (Index i) = unwrap_or (slice_get severities i) NoAlarm
state_severity severities _ = NoAlarm

-- the alarms that what a record holds raises
abbrev pub value_rows : Config → Datum → List Row
value_rows config datum =
    let state = state_severity config.severities datum in
    row (at_least config.hihi datum && is_alarm config.hhsv) config.hhsv Device (codes "HIHI") ∷
    row (at_most config.lolo datum && is_alarm config.llsv) config.llsv Device (codes "LOLO") ∷
    row (at_least config.high datum && is_alarm config.hsv) config.hsv Device (codes "HIGH") ∷
    row (at_most config.low datum && is_alarm config.lsv) config.lsv Device (codes "LOW") ∷
    row (is_alarm state) state Device (codes "STATE") ∷ []

-- The alarm of a record that holds this datum, by whether it is undefined and whether its port took the value.
abbrev pub alarm_of : Config → Datum → Bool → Bool → Alarm
alarm_of config datum undefined drove =
    first_alarm (
    row undefined Invalid Undefined (codes "UDF") ∷
    row (not drove) Invalid Driver (codes "WRITE") ∷
    value_rows config datum)
