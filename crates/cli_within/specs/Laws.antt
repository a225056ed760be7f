-- Completeness: how an exchange, and a run of the program, end that meet no fault.
use Rattle.std.specs.Prelude.{◌≡◌, ◌⊎◌, ℕ, ℤ, ◌+◌, ◌<◌, ◌≤◌, List, ◌∷◌, length, Option, None, Some, Result, Ok, Err, ⊤}
use Rattle.std.proofs.Common.{inl, inr}
use Rattle.clap.specs.Words.{Text}
use Rattle.pva_outside.specs.Count.{Rose}
use Rattle.pva_outside.specs.Makers.{MakerView}
use Rattle.pva_wire.specs.declared.order.Order.TheVariants.{Little}
use Rattle.pvd_codec.specs.Written.{CanEach}
use Rattle.desk_api.specs.Calls.{first_seat}
use Rattle.desk_api.specs.declared.history.Base.{Base}
use Rattle.desk_api.specs.declared.history.SiteData.{SiteData}
use Rattle.desk_api.specs.declared.mark.Mark.{Mark}
use Rattle.desk_api.specs.declared.mark.Seat.{Seat}
use Rattle.journal_core.specs.Moments.{Moment}
use Rattle.srv_session.specs.State.{opening}
use Rattle.srv_stream.specs.Streams.{moment_told}
use Rattle.cli_text.specs.declared.fault.PutText.{PutText}
use Rattle.cli_session.specs.Laws.{IsShort}
use Rattle.cli_session.specs.Steps.{Told, part, client_told, client_sent, client_fault}
use Rattle.cli_session.specs.declared.ask.Ask.{Ask}
use Rattle.cli_session.specs.declared.ask.Operation.{Operation}
use Rattle.cli_session.specs.declared.ask.Operation.TheVariants as operation
use Rattle.cli_session.specs.declared.fault.ClientFault.TheVariants as faults
use Rattle.cli_within.specs.Clear.{AreShort}
use Rattle.cli_within.specs.Ends.{events_in, text_for, HasPrinted}
use Rattle.cli_within.specs.Exchanging.{Exchanged, HasCause}
use Rattle.cli_within.specs.Running.{Does, IsDone, Outside, SiteRuns, journal, limits_of}
use Rattle.cli_within.specs.Words.{Asked, most}
use Rattle.cli_within.specs.declared.rounds.Limits.{Limits}
use Rattle.cli_within.specs.declared.stop.End.{End}
use Rattle.cli_within.specs.declared.stop.End.TheVariants as ends
use Rattle.cli_within.specs.declared.stop.Status.{Status}
use Rattle.cli_within.specs.declared.stop.Status.TheVariants as status
use Rattle.cli_within.specs.declared.stop.Stop.TheVariants as stops
use Rattle.prog_source.specs.declared.loading.SourceStop.{SourceStop}

-- Where an end may have stopped at a header of the other one, no payload of that other one is too long. Of an exchange that
-- ended otherwise nothing is asked.
abbrev pub IsCauseClear : (ask : Ask) (site : SiteData) (idle piece turns : ℕ) (start now : Option (List ℕ)) (before after : ℕ)
    (given taken : List ℕ) (log : List Mark) (end : End)
    → HasCause ask site idle piece turns start now before after given taken log end → Type 0
IsCauseClear ask site idle piece turns start now before after given taken log (ends.Told ending) cause = ⊤
IsCauseClear ask site idle piece turns start now before after given taken log (ends.Stopped stops.NoMemory) cause = ⊤
IsCauseClear ask site idle piece turns start now before after given taken log (ends.Stopped stops.Sink) cause = ⊤
IsCauseClear ask site idle piece turns start now before after given taken log (ends.Stopped (stops.Client fault)) cause = ⊤
IsCauseClear ask site idle piece turns start now before after given taken log (ends.Stopped (stops.Frame fault)) cause =
    AreShort site (opening Little) cause.talked.whole.dialogue.talk.steps
IsCauseClear ask site idle piece turns start now before after given taken log ends.Closed cause =
    CanEach IsShort (client_sent ask (events_in taken))
IsCauseClear ask site idle piece turns start now before after given taken log ends.Idle cause = ⊤
IsCauseClear ask site idle piece turns start now before after given taken log ends.Spent cause = ⊤

-- a monitor's window, where it has one, may be asked for
abbrev pub IsInRange : Option ℕ → Type 0
IsInRange None = ⊤
IsInRange (Some first) = (1 ≤ first) × (first ≤ most)

abbrev pub HasWindow : Operation → Type 0
HasWindow (operation.Monitor queue window count) = IsInRange window
HasWindow op = ⊤

-- no print failed
abbrev pub IsPrinted : End → Type 0
IsPrinted (ends.Stopped stops.Sink) = ⊥
IsPrinted end = ⊤

-- where the rounds were spent, there were more of them than bytes
abbrev pub HasRounds : End → ℕ → ℕ → Type 0
HasRounds ends.Spent turns bytes = bytes < turns
HasRounds end turns bytes = ⊤

-- An exchange that meets no fault: every print was taken, the words of a put give a value, no end stopped at a payload that
-- is too long, and where the rounds were spent, there were more of them than bytes.
pub record IsFaultless (ask : Ask) (idle piece turns : ℕ) (told : Option Moment) (base : Base) (last : Seat)
    (start now : Option (List ℕ)) (before after : ℕ) (end : End)
    (x : Exchanged ask idle piece turns told (first_seat base) last start now before after end) : Type 0 where
  pub printed : IsPrinted end
  pub words : (text : PutText) → ¬ (client_fault ask (events_in x.taken) ≡ Some (faults.Words text))
  pub clear : IsCauseClear ask base.site idle piece turns start now before after x.given x.taken x.log end x.cause
  pub rounds : HasRounds end turns (length x.given + length x.taken)

-- a monitor of more than one update, the first of which was told
abbrev pub HasMore : Operation → List Told → Type 0
HasMore (operation.Monitor queue window count) (part p overrun ∷ told) = 1 < count
HasMore other told = ⊥

-- Such an exchange with a desk that has done nothing before ends with its operation, or for want of memory, where a window is
-- one that may be asked for; only a monitor that goes on may also end otherwise.
abbrev pub IsCompleted : Ask → List ℕ → End → Type 0
IsCompleted ask taken (ends.Told ending) = ⊤
IsCompleted ask taken (ends.Stopped stops.NoMemory) = ⊤
IsCompleted ask taken (ends.Stopped (stops.Client faults.NoMemory)) = ⊤
IsCompleted ask taken ends.Idle = HasMore ask.operation (client_told ask (events_in taken))
IsCompleted ask taken ends.Spent = HasMore ask.operation (client_told ask (events_in taken))
IsCompleted ask taken other = ⊥

abbrev pub ExchangesComplete : Type 0
ExchangesComplete =
    (ask : Ask) (idle piece turns : ℕ) (told : Option Moment) (base : Base) (last : Seat) (start now : Option (List ℕ))
    (before after : ℕ) (end : End)
    (x : Exchanged ask idle piece turns told (first_seat base) last start now before after end)
    → HasWindow ask.operation → IsFaultless ask idle piece turns told base last start now before after end x
    → IsCompleted ask x.taken end

-- A run of the program that meets no fault: the words are taken, no count of faults of files or ports rose, and an exchange
-- was such a one.

abbrev pub IsSiteFaultless : (ask : Ask) (limits : Limits) (site : SiteData) (told : Option (ℤ × ℕ))
    (ports ports' : MakerView) (start now : Option (List ℕ)) (before after : ℕ) (code : Status)
    → SiteRuns ask limits site told ports ports' start now before after code → Type 0
IsSiteFaultless ask limits site told ports ports' start now before after code (inl run) =
    IsFaultless ask limits.idle limits.piece limits.turns (moment_told told) (record { site = site; limit = journal })
    run.ran.seat start now before after run.end run.ran.exchanged
IsSiteFaultless ask limits site told ports ports' start now before after code (inr unrun) = ⊤

abbrev pub IsDoneFaultless : (asked : Asked) (found : Result SiteData SourceStop) (told : Option (ℤ × ℕ))
    (old new : Outside) (code : Status) → Does asked found told old new code → Type 0
IsDoneFaultless asked (Ok site) told old new code does =
    IsSiteFaultless asked.ask (limits_of asked) site told old.ports new.ports old.printed new.printed old.print_faults
    new.print_faults code does
IsDoneFaultless asked (Err stop) told old new code does = ⊤

pub record IsRunFaultless (words : List Text) (told : Option (ℤ × ℕ)) (old new : Outside) (code : Status)
    (run : IsDone words told old new code) : Type 0 where
  pub files : ¬ (Rose old.files.faults new.files.faults)
  pub ports : ¬ (Rose old.ports.faults new.ports.faults)
  pub exchange : IsDoneFaultless run.asked run.done.found told old new code run.done.does

-- The operation is done, the server refused it, memory ran out, or the database text is at fault.
abbrev pub IsUsual : Status → Type 0
IsUsual status.Done = ⊤
IsUsual status.Refused = ⊤
IsUsual status.NoMemory = ⊤
IsUsual status.Site = ⊤
IsUsual other = ⊥

abbrev pub IsLate : Status → Type 0
IsLate status.Idle = ⊤
IsLate status.Spent = ⊤
IsLate other = ⊥

-- what the client took of the server's bytes in a run, where the operation ran

abbrev pub taken_at : (ask : Ask) (limits : Limits) (site : SiteData) (told : Option (ℤ × ℕ)) (ports ports' : MakerView)
    (start now : Option (List ℕ)) (before after : ℕ) (code : Status)
    → SiteRuns ask limits site told ports ports' start now before after code → Option (List ℕ)
taken_at ask limits site told ports ports' start now before after code (inl run) = Some run.ran.exchanged.taken
taken_at ask limits site told ports ports' start now before after code (inr unrun) = None

abbrev pub taken_by : (asked : Asked) (found : Result SiteData SourceStop) (told : Option (ℤ × ℕ)) (old new : Outside)
    (code : Status) → Does asked found told old new code → Option (List ℕ)
taken_by asked (Ok site) told old new code does =
    taken_at asked.ask (limits_of asked) site told old.ports new.ports old.printed new.printed old.print_faults
    new.print_faults code does
taken_by asked (Err stop) told old new code does = None

abbrev pub taken_in : (words : List Text) (told : Option (ℤ × ℕ)) (old new : Outside) (code : Status)
    → IsDone words told old new code → Option (List ℕ)
taken_in words told old new code run = taken_by run.asked run.done.found told old new code run.done.does

-- A monitor goes on: it awaits more than one update, and what the client took tells at least the first, which is printed.
pub record GoesOn (ask : Ask) (taken : Option (List ℕ)) (old new : Outside) (code : Status) : Type 0 where
  pub late : IsLate code
  pub bytes : List ℕ
  pub taken_is : taken ≡ Some bytes
  pub more : HasMore ask.operation (client_told ask (events_in bytes))
  pub printed : HasPrinted old.printed new.printed old.print_faults new.print_faults (text_for ask bytes)

-- Such a run ends so.
abbrev pub RunsComplete : Type 0
RunsComplete =
    (words : List Text) (told : Option (ℤ × ℕ)) (old new : Outside) (code : Status) (run : IsDone words told old new code)
    → IsRunFaultless words told old new code run
    → IsUsual code ⊎ GoesOn run.asked.ask (taken_in words told old new code run) old new code
