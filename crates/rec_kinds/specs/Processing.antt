-- What an action makes of a record (EPICS record reference).
use Rattle.std.specs.Prelude.{ℤ, Bool, true, false, int_lt, if◌then◌else◌}
use Rattle.rec_kinds.specs.Alarms.{Alarm, alarm_of}
use Rattle.rec_kinds.specs.Configs.{Config}
use Rattle.rec_kinds.specs.Moments.{Instant}
use Rattle.rec_kinds.specs.declared.datum.Datum.{Datum}
use Rattle.rec_kinds.specs.declared.datum.Datum.TheVariants.{Num, Index, Text, Nums, Texts}
use Rattle.rec_kinds.specs.declared.datum.Action.{Action}
use Rattle.rec_kinds.specs.declared.datum.Action.TheVariants.{Put, Process}
use Rattle.rec_kinds.specs.declared.state.RecState.{RecState}

-- a state with this datum and this alarm
abbrev pub state_with : Datum → Bool → Alarm → Instant → ℤ → RecState
state_with datum undefined alarm moment tag = record {
  datum = datum;
  undefined = undefined;
  severity = alarm.severity;
  status = alarm.status;
  message = alarm.message;
  moment = moment;
  tag = tag;
}

-- the number in a range that is nearest to a number, where the range has more than one number
abbrev pub nearest : ℤ → ℤ → ℤ → ℤ
nearest low high n =
    if int_lt low high then (if int_lt n low then low else (if int_lt high n then high else n)) else n

-- what a put of the datum sets: a number goes to the nearest that the record's limits allow
abbrev pub clamped : Config → Datum → Datum
clamped config (Num n) = Num (nearest config.drvl config.drvh n)
clamped config (Index i) = Index i
clamped config (Text t) = Text t
clamped config (Nums ns) = Nums ns
clamped config (Texts ts) = Texts ts

-- whether it is a text or a list, which copies share
abbrev pub is_shared : Datum → Bool
is_shared (Num n) = false
is_shared (Index i) = false
is_shared (Text t) = true
is_shared (Nums ns) = true
is_shared (Texts ts) = true

-- A put sets the datum, and processing keeps it.
abbrev pub datum_after : Config → RecState → Action → Datum
datum_after config old (Put datum) = clamped config datum
datum_after config old Process = old.datum

-- A put ends that the record is undefined, and processing doesn't.
abbrev pub undefined_after : RecState → Action → Bool
undefined_after old (Put datum) = false
undefined_after old Process = old.undefined

-- The state after the action at this moment. `drove` says whether the record's port took the value.
abbrev pub processed : Config → RecState → Action → Instant → Bool → RecState
processed config old action moment drove =
    let datum = datum_after config old action in
    let undefined = undefined_after old action in
    state_with datum undefined (alarm_of config datum undefined drove) moment old.tag
