-- The numbers of severities and of status (Normative Types, "alarm_t").
use Rattle.std.specs.Prelude.{ℕ, Bool, true, false}
use Rattle.rec_kinds.specs.declared.severity.Severity.{Severity}
use Rattle.rec_kinds.specs.declared.severity.Severity.TheVariants.{NoAlarm, Minor, Major, Invalid}
use Rattle.rec_kinds.specs.declared.severity.Status.{Status}
use Rattle.rec_kinds.specs.declared.severity.Status.TheVariants.{NoStatus, Device, Driver, Record, Db, Configuration, Undefined, Client}

abbrev pub severity_number : Severity → ℕ
severity_number NoAlarm = 0
severity_number Minor = 1
severity_number Major = 2
severity_number Invalid = 3

abbrev pub status_number : Status → ℕ
status_number NoStatus = 0
status_number Device = 1
status_number Driver = 2
status_number Record = 3
status_number Db = 4
status_number Configuration = 5
status_number Undefined = 6
status_number Client = 7

-- whether it is one
abbrev pub is_alarm : Severity → Bool
is_alarm NoAlarm = false
is_alarm Minor = true
is_alarm Major = true
is_alarm Invalid = true
