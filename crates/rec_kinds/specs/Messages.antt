-- The messages of alarms (EPICS record reference, "Alarm Specification").
use Rattle.std.specs.Prelude.{ℕ, List, [], codes}
use Rattle.rec_kinds.specs.declared.message.AlarmRow.{AlarmRow}
use Rattle.rec_kinds.specs.declared.message.AlarmRow.TheVariants.{Quiet, Undefined, NotDriven, Hihi, Lolo, High, Low, State}

-- the message of a row of the table of alarms, and the empty one where none holds
abbrev pub message_of : AlarmRow → List ℕ
message_of Quiet = []
message_of Undefined = codes "UDF"
message_of NotDriven = codes "WRITE"
message_of Hihi = codes "HIHI"
message_of Lolo = codes "LOLO"
message_of High = codes "HIGH"
message_of Low = codes "LOW"
message_of State = codes "STATE"
