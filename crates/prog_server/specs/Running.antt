-- What a run of the program does.
use Rattle.std.specs.Prelude.{◌≡◌, ◌⊎◌, ℕ, ℤ, List, length, Option, None, Some, Result, Ok, Err}
use Rattle.pva_outside.specs.Files.{FilesView}
use Rattle.pva_outside.specs.Makers.{MakerView}
use Rattle.pva_outside.specs.Wire.{Wire}
use Rattle.pva_outside.specs.declared.peer.Peer.{Peer}
use Rattle.pva_wire.specs.declared.order.Order.{Order}
use Rattle.histories.specs.History.{tagged}
use Rattle.desk_api.specs.Calls.{first_seat}
use Rattle.desk_api.specs.Marks.{deeds_of}
use Rattle.desk_api.specs.declared.history.Base.{Base}
use Rattle.desk_api.specs.declared.history.SiteData.{SiteData}
use Rattle.desk_api.specs.declared.mark.Seat.{Seat}
use Rattle.srv_stream.specs.Served.{Served}
use Rattle.srv_stream.specs.Streams.{moment_told}
use Rattle.srv_stream.specs.declared.ended.Ended.{Ended}
use Rattle.srv_stream.specs.declared.ended.Ended.TheVariants as ends
use Rattle.prog_drill.specs.Drilling.{DrillRun, drill_lines}
use Rattle.prog_source.specs.Opening.{Opens, AllMade, OneUnmade, SomeMade}
use Rattle.prog_server.specs.Telling.{counts_line, fault_line}
use Rattle.prog_source.specs.Printing.{IsPrinted}
use Rattle.clap.specs.Words.{Text}
use Rattle.prog_server.specs.Words.{Asked, AreTaken}
use Rattle.prog_source.specs.Words.{Source}
use Rattle.prog_source.specs.declared.loading.SourceStop.{SourceStop}
use Rattle.prog_source.specs.declared.loading.SourceStop.TheVariants.{Unread, Fault, NoMemory}
use Rattle.prog_source.specs.declared.ports.PortsStop.{PortsStop}
use Rattle.prog_source.specs.declared.ports.PortsStop.TheVariants as unmade
use Rattle.prog_source.specs.declared.printing.Printed.{Printed}
use Rattle.prog_source.specs.declared.printing.Printed.TheVariants as printing
use Rattle.prog_server.specs.declared.words.Task.{Task}
use Rattle.prog_server.specs.declared.words.Task.TheVariants.{Inetd, Check, Listen, Drill}

-- what stands outside of the program: its link, its files, what makes its ports, what was printed (None: not told), and
-- how often printing failed
pub record Outside : Type 0 where
  pub wire : Wire
  pub files : FilesView
  pub ports : MakerView
  pub printed : Option (List ℕ)
  pub print_faults : ℕ

-- the exit status that tells why a connection ended
abbrev pub status_of : Ended → ℕ
status_of ends.Closed = 0
status_of (ends.Truncated place) = 5
status_of (ends.Bad fault place) = 5
status_of ends.ReadFault = 6
status_of ends.WriteFault = 6
status_of ends.NoMemory = 7
status_of (ends.Spent calls) = 8

-- the exit status that tells why a source gives no site to serve
abbrev pub status_of_stop : SourceStop → ℕ
status_of_stop Unread = 3
status_of_stop (Fault fault) = 4
status_of_stop NoMemory = 7

-- the exit status that tells why a site's ports can't be had
abbrev pub status_of_unmade : PortsStop → ℕ
status_of_unmade unmade.Unmade = 3
status_of_unmade unmade.NoMemory = 7

-- the exit status that tells what became of a line, where this one tells that it was printed whole
abbrev pub status_by : ℕ → Printed → ℕ
status_by status printing.Whole = status
status_by status printing.Failed = 6
status_by status printing.NoMemory = 7

-- The link was served in this byte order, for so many calls of it at most, from a desk whose history begins so and has no
-- entry. At the end the history is the one that the marks of the connection make. It is legal (`served.adds.legal`).
pub record Serves (base : Base) (order : Order) (turns : ℕ) (start end : Wire) (told : Option (ℤ × ℕ)) (ended : Ended) : Type 0 where
  pub seat : Seat
  pub served : Served (first_seat base) seat start end (moment_told told) order turns ended
  pub deeds_are : seat.seen.deeds ≡ tagged seat.number (deeds_of served.log)

-- A site that is to be served, over a maker of ports and a link.

-- The link was served from a desk of this site with its ports, all of which were made.
pub record IsServed (asked : Asked) (site : SiteData) (told : Option (ℤ × ℕ)) (ports ports' : MakerView) (start end : Wire)
    (status : ℕ) : Type 0 where
  pub ended : Ended
  pub made : AllMade site.configs ports ports'
  pub serves : Serves (record { site = site; limit = asked.journal }) asked.order asked.turns start end told ended
  pub status_is : status ≡ status_of ended

-- A port wasn't made, and the link is as it was.
pub record IsUnmade (site : SiteData) (ports ports' : MakerView) (start end : Wire) (status : ℕ) : Type 0 where
  pub unmade : OneUnmade site.configs ports ports'
  pub wire : end ≡ start
  pub status_is : status ≡ 3

-- Memory ran out among the ports.
pub record IsUnserved (site : SiteData) (ports ports' : MakerView) (start end : Wire) (status : ℕ) : Type 0 where
  pub some : SomeMade site.configs ports ports'
  pub wire : end ≡ start
  pub status_is : status ≡ 7

abbrev pub SiteServes : Asked → SiteData → Option (ℤ × ℕ) → MakerView → MakerView → Wire → Wire → ℕ → Type 0
SiteServes asked site told ports ports' start end status =
    IsServed asked site told ports ports' start end status
    ⊎ (IsUnmade site ports ports' start end status ⊎ IsUnserved site ports ports' start end status)

-- Neither ports nor the link were used, and this is the status.
pub record IsUnasked (ports ports' : MakerView) (start end : Wire) (status whole : ℕ) : Type 0 where
  pub ports_are : ports' ≡ ports
  pub wire : end ≡ start
  pub status_is : status ≡ whole

-- What `--inetd` makes of its source.
abbrev pub Serving : Asked → Result SiteData SourceStop → Option (ℤ × ℕ) → MakerView → MakerView → Wire → Wire → ℕ → Type 0
Serving asked (Ok site) told ports ports' start end status = SiteServes asked site told ports ports' start end status
Serving asked (Err stop) told ports ports' start end status = IsUnasked ports ports' start end status (status_of_stop stop)

-- A source that is to be checked, over what was printed and how often printing failed.

-- A line was printed, whole or in part. This status tells that it was printed whole.
pub record IsTold (line : List ℕ) (whole : ℕ) (old new : Option (List ℕ)) (faults faults' status : ℕ) : Type 0 where
  pub printed : Printed
  pub prints : IsPrinted old new faults faults' line printed
  pub status_is : status ≡ status_by whole printed

-- Nothing was printed, and this is the status.
pub record IsSilent (old new : Option (List ℕ)) (faults faults' status whole : ℕ) : Type 0 where
  pub printed : new ≡ old
  pub print_faults : faults' ≡ faults
  pub status_is : status ≡ whole

-- A line is printed; memory may run out before.
abbrev pub Tells : List ℕ → ℕ → Option (List ℕ) → Option (List ℕ) → ℕ → ℕ → ℕ → Type 0
Tells line whole old new faults faults' status =
    IsTold line whole old new faults faults' status ⊎ IsSilent old new faults faults' status 7

-- What `--check` makes of its source.
abbrev pub Checking : Result SiteData SourceStop → Option (List ℕ) → Option (List ℕ) → ℕ → ℕ → ℕ → Type 0
Checking (Ok site) old new faults faults' status = Tells (counts_line (length site.names) (length site.groups)) 0 old new faults faults' status
Checking (Err Unread) old new faults faults' status = IsSilent old new faults faults' status 3
Checking (Err (Fault fault)) old new faults faults' status = Tells (fault_line fault) 4 old new faults faults' status
Checking (Err NoMemory) old new faults faults' status = IsSilent old new faults faults' status 7

-- `--check` uses neither ports nor the link, and `--inetd` prints nothing. The drill has no source, and a server of many
-- clients isn't run alone.
abbrev pub Does : Task → Asked → Result SiteData SourceStop → Option (ℤ × ℕ) → Outside → Outside → ℕ → Type 0
Does Check asked found told old new status =
    Checking found old.printed new.printed old.print_faults new.print_faults status
    × IsUnasked old.ports new.ports old.wire new.wire status status
Does Inetd asked found told old new status =
    Serving asked found told old.ports new.ports old.wire new.wire status
    × IsSilent old.printed new.printed old.print_faults new.print_faults status status
Does (Listen at) asked found told old new status = ⊥
Does (Drill n) asked found told old new status = ⊥

-- What the drill of this number prints: the five lines of a run of it. Memory may run out, and then nothing is printed.
abbrev pub Drilling : ℕ → Option (List ℕ) → Option (List ℕ) → ℕ → ℕ → ℕ → Type 0
Drilling n old new faults faults' status =
    ((run : DrillRun n) × IsTold (drill_lines n run) 0 old new faults faults' status)
    ⊎ IsSilent old new faults faults' status 7

-- The words ask for a drill: it was run. Files, ports and the link weren't used.
pub record IsDrilled (words : List Text) (old new : Outside) (status : ℕ) : Type 0 where
  pub asked : Asked
  pub taken : AreTaken words asked
  pub number : ℕ
  pub task_is : asked.task ≡ Drill number
  pub drills : Drilling number old.printed new.printed old.print_faults new.print_faults status
  pub files : new.files ≡ old.files
  pub unasked : IsUnasked old.ports new.ports old.wire new.wire status status

-- The words ask for a source to be served or checked: it was done.
pub record IsDone (words : List Text) (told : Option (ℤ × ℕ)) (old new : Outside) (status : ℕ) : Type 0 where
  pub asked : Asked
  pub taken : AreTaken words asked
  pub source : Source
  pub source_is : asked.source ≡ Some source
  pub found : Result SiteData SourceStop
  pub opens : Opens asked.macros source old.files new.files found
  pub does : Does asked.task asked found told old new status

-- The words aren't taken: nothing was done.
pub record IsRefused (words : List Text) (old new : Outside) (status : ℕ) : Type 0 where
  pub untaken : (asked : Asked) → ¬ (AreTaken words asked)
  pub status_is : status ≡ 2
  pub untouched : new ≡ old

-- Memory ran out before the words were read: nothing was done.
pub record IsUnread (old new : Outside) (status : ℕ) : Type 0 where
  pub status_is : status ≡ 7
  pub untouched : new ≡ old

-- one run of the program with these words, which ask for no server of many clients, at the moment that the clock tells
abbrev pub Runs : List Text → Option (ℤ × ℕ) → Outside → Outside → ℕ → Type 0
Runs words told old new status =
    IsDone words told old new status
    ⊎ (IsDrilled words old new status ⊎ (IsRefused words old new status ⊎ IsUnread old new status))

-- The words ask for a server of many clients.
pub record AskToListen (words : List Text) : Type 0 where
  pub asked : Asked
  pub taken : AreTaken words asked
  pub at : Peer
  pub task_is : asked.task ≡ Listen at

-- They do, and nothing was done.
pub record IsLeft (words : List Text) (old new : Outside) : Type 0 where
  pub asks : AskToListen words
  pub untouched : new ≡ old

-- A run that serves one client at most: its status, or None where the words ask for a server of many.
abbrev pub RunsAlone : List Text → Option (ℤ × ℕ) → Outside → Outside → Option ℕ → Type 0
RunsAlone words told old new (Some status) = Runs words told old new status
RunsAlone words told old new None = IsLeft words old new
