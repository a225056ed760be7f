-- Parts of alarms and configurations as the program holds them.
use Rattle.rec_kinds.specs.Alarms.{Alarm}
use Rattle.rec_kinds.specs.Configs.{Config}
use Rattle.rec_kinds.specs.Messages.{message_of}
use Rattle.rec_kinds.specs.declared.alarm.Raised.{Raised}
use Rattle.rec_kinds.specs.declared.config.Limits.{Limits}

-- an alarm by its row
abbrev pub alarm_in : Raised → Alarm
alarm_in r = record { severity = r.severity; status = r.status; message = message_of r.row }

-- the limits of a configuration
abbrev pub limits_in : Config → Limits
limits_in c = record {
  hihi = c.hihi;
  high = c.high;
  low = c.low;
  lolo = c.lolo;
  hhsv = c.hhsv;
  hsv = c.hsv;
  lsv = c.lsv;
  llsv = c.llsv;
}
