-- What a run of the program does.
use Rattle.std.specs.Prelude.{◌≡◌, ◌⊎◌, ℕ, ℤ, List, Option, Result, Ok, Err}
use Rattle.clap.specs.Words.{Text}
use Rattle.pva_outside.specs.Files.{FilesView}
use Rattle.pva_outside.specs.Makers.{MakerView}
use Rattle.pva_outside.specs.Wire.{Wire}
use Rattle.histories.specs.History.{tagged}
use Rattle.desk_api.specs.Calls.{first_seat}
use Rattle.desk_api.specs.Marks.{deeds_of}
use Rattle.desk_api.specs.declared.history.Base.{Base}
use Rattle.desk_api.specs.declared.history.SiteData.{SiteData}
use Rattle.desk_api.specs.declared.mark.Seat.{Seat}
use Rattle.srv_stream.specs.Streams.{moment_told}
use Rattle.cli_session.specs.declared.ask.Ask.{Ask}
use Rattle.cli_session.specs.declared.fault.ClientFault.{ClientFault}
use Rattle.cli_session.specs.declared.fault.ClientFault.TheVariants as faults
use Rattle.prog_source.specs.Opening.{Opens, AllMade, OneUnmade, SomeMade}
use Rattle.prog_source.specs.declared.loading.SourceStop.{SourceStop}
use Rattle.prog_source.specs.declared.loading.SourceStop.TheVariants.{Unread, Fault, NoMemory}
use Rattle.prog_source.specs.declared.ports.PortsStop.{PortsStop}
use Rattle.prog_source.specs.declared.ports.PortsStop.TheVariants as unmade
use Rattle.cli_within.specs.Exchanging.{Exchanged}
use Rattle.cli_within.specs.Words.{Asked, AreTaken}
use Rattle.cli_within.specs.declared.rounds.Limits.{Limits}
use Rattle.cli_within.specs.declared.words.WordsStop.{WordsStop}
use Rattle.cli_within.specs.declared.words.WordsStop.TheVariants as words_stops
use Rattle.cli_within.specs.declared.stop.End.{End}
use Rattle.cli_within.specs.declared.stop.End.TheVariants as ends
use Rattle.cli_within.specs.declared.stop.Ending.TheVariants as endings
use Rattle.cli_within.specs.declared.stop.Status.{Status}
use Rattle.cli_within.specs.declared.stop.Status.TheVariants as status
use Rattle.cli_within.specs.declared.stop.Stop.{Stop}
use Rattle.cli_within.specs.declared.stop.Stop.TheVariants as stops

-- The exit status.

abbrev pub status_of_fault : ClientFault → Status
status_of_fault (faults.Words text) = status.Words
status_of_fault faults.NoMemory = status.NoMemory
status_of_fault other = status.Stream

abbrev pub status_of_stop : Stop → Status
status_of_stop (stops.Client fault) = status_of_fault fault
status_of_stop (stops.Frame fault) = status.Stream
status_of_stop stops.Sink = status.Outside
status_of_stop stops.NoMemory = status.NoMemory

abbrev pub status_of : End → Status
status_of (ends.Told endings.Finished) = status.Done
status_of (ends.Told endings.Refused) = status.Refused
status_of (ends.Stopped stop) = status_of_stop stop
status_of ends.Closed = status.Outside
status_of ends.Idle = status.Idle
status_of ends.Spent = status.Spent

-- its number
abbrev pub number_of : Status → ℕ
number_of status.Done = 0
number_of status.Refused = 1
number_of status.Words = 2
number_of status.Unfound = 3
number_of status.Outside = 4
number_of status.Stream = 5
number_of status.Idle = 6
number_of status.NoMemory = 7
number_of status.Site = 8
number_of status.Spent = 9

-- what stands outside of the program: its link, its files, what makes its ports, what was printed (None: not told), and
-- how often printing failed
pub record Outside : Type 0 where
  pub wire : Wire
  pub files : FilesView
  pub ports : MakerView
  pub printed : Option (List ℕ)
  pub print_faults : ℕ

-- what the entries of the server's history may weigh together
abbrev pub journal : ℕ
journal = 268435456

-- The operation ran against a server of a desk whose history begins so and has no entry. At the end the history is the one
-- that its marks make. It is legal (`exchanged.adds.legal`).
pub record HasRun (ask : Ask) (limits : Limits) (base : Base) (told : Option (ℤ × ℕ)) (start now : Option (List ℕ))
    (before after : ℕ) (end : End) : Type 0 where
  pub seat : Seat
  pub exchanged :
      Exchanged ask limits.idle limits.piece limits.turns (moment_told told) (first_seat base) seat start now before after
      end
  pub deeds_are : seat.seen.deeds ≡ tagged seat.number (deeds_of exchanged.log)

-- A site over which an operation is to run, over a maker of ports and what was printed.

-- Its ports were made, and the operation ran.
pub record IsRun (ask : Ask) (limits : Limits) (site : SiteData) (told : Option (ℤ × ℕ)) (ports ports' : MakerView)
    (start now : Option (List ℕ)) (before after : ℕ) (code : Status) : Type 0 where
  pub end : End
  pub made : AllMade site.configs ports ports'
  pub ran : HasRun ask limits (record { site = site; limit = journal }) told start now before after end
  pub status_is : code ≡ status_of end

-- nothing was printed
pub record IsSilent (start now : Option (List ℕ)) (before after : ℕ) : Type 0 where
  pub printed : now ≡ start
  pub print_faults : after ≡ before

-- A port wasn't made, or memory ran out among them, and nothing was printed.

pub record IsUnmade (site : SiteData) (ports ports' : MakerView) (start now : Option (List ℕ)) (before after : ℕ)
    (code : Status) : Type 0 where
  pub unmade : OneUnmade site.configs ports ports'
  pub silent : IsSilent start now before after
  pub status_is : code ≡ status.Outside

pub record IsUnrun (site : SiteData) (ports ports' : MakerView) (start now : Option (List ℕ)) (before after : ℕ)
    (code : Status) : Type 0 where
  pub some : SomeMade site.configs ports ports'
  pub silent : IsSilent start now before after
  pub status_is : code ≡ status.NoMemory

abbrev pub SiteRuns : Ask → Limits → SiteData → Option (ℤ × ℕ) → MakerView → MakerView → Option (List ℕ)
    → Option (List ℕ) → ℕ → ℕ → Status → Type 0
SiteRuns ask limits site told ports ports' start now before after code =
    IsRun ask limits site told ports ports' start now before after code
    ⊎ (IsUnmade site ports ports' start now before after code ⊎ IsUnrun site ports ports' start now before after code)

-- the status that tells why a source gives no site
abbrev pub status_of_source : SourceStop → Status
status_of_source Unread = status.Outside
status_of_source (Fault fault) = status.Site
status_of_source NoMemory = status.NoMemory

-- the status that tells why a site's ports can't be had
abbrev pub status_of_unmade : PortsStop → Status
status_of_unmade unmade.Unmade = status.Outside
status_of_unmade unmade.NoMemory = status.NoMemory

-- the status that tells why words ask for nothing
abbrev pub status_of_words : WordsStop → Status
status_of_words words_stops.Refused = status.Words
status_of_words words_stops.NoMemory = status.NoMemory

-- There is no site, no port was asked for, and nothing was printed.
pub record IsUnopened (stop : SourceStop) (old new : Outside) (code : Status) : Type 0 where
  pub ports : new.ports ≡ old.ports
  pub silent : IsSilent old.printed new.printed old.print_faults new.print_faults
  pub status_is : code ≡ status_of_source stop

abbrev pub limits_of : Asked → Limits
limits_of asked = record { idle = asked.idle; piece = asked.piece; turns = asked.turns }

abbrev pub Does : Asked → Result SiteData SourceStop → Option (ℤ × ℕ) → Outside → Outside → Status → Type 0
Does asked (Ok site) told old new code =
    SiteRuns asked.ask (limits_of asked) site told old.ports new.ports old.printed new.printed old.print_faults
    new.print_faults code
Does asked (Err stop) told old new code = IsUnopened stop old new code

-- What was asked for was done. No connection was used.
pub record HasDone (asked : Asked) (told : Option (ℤ × ℕ)) (old new : Outside) (code : Status) : Type 0 where
  pub found : Result SiteData SourceStop
  pub opens : Opens asked.macros asked.source old.files new.files found
  pub wire : new.wire ≡ old.wire
  pub does : Does asked found told old new code

-- The words ask for an operation within a source, and it was run.
pub record IsDone (words : List Text) (told : Option (ℤ × ℕ)) (old new : Outside) (code : Status) : Type 0 where
  pub asked : Asked
  pub taken : AreTaken words asked
  pub done : HasDone asked told old new code

-- The words aren't taken: nothing was done.
pub record IsRefused (words : List Text) (old new : Outside) (code : Status) : Type 0 where
  pub untaken : (asked : Asked) → ¬ (AreTaken words asked)
  pub status_is : code ≡ status.Words
  pub untouched : new ≡ old

-- Memory ran out before the words were read: nothing was done.
pub record IsUnread (old new : Outside) (code : Status) : Type 0 where
  pub status_is : code ≡ status.NoMemory
  pub untouched : new ≡ old

abbrev pub RunsTo : List Text → Option (ℤ × ℕ) → Outside → Outside → Status → Type 0
RunsTo words told old new code =
    IsDone words told old new code ⊎ (IsRefused words old new code ⊎ IsUnread old new code)

-- One run of the program with these words, at the moment that the clock tells, and its exit status.
pub record Runs (words : List Text) (told : Option (ℤ × ℕ)) (old new : Outside) (number : ℕ) : Type 0 where
  pub code : Status
  pub number_is : number ≡ number_of code
  pub runs : RunsTo words told old new code
