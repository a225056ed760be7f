-- What follows for each run of a server of many clients.
use Rattle.std.specs.Prelude.{◌≡◌, ◌⊎◌, ⊤, ℕ, ℤ, ◌<◌, ◌≤◌, ◌+◌, ◌^◌, true, List, Option, Result, Err}
use Rattle.std.specs.Io.KnownBytes.{Appends}
use Rattle.pva_outside.specs.Bindings.{Bindings, and_asked, and_bound}
use Rattle.pva_outside.specs.Count.{Rose}
use Rattle.pva_outside.specs.Counted.{counted}
use Rattle.pva_outside.specs.Doors.{Door}
use Rattle.pva_outside.specs.declared.peer.Peer.{Peer}
use Rattle.db_text.specs.Macros.{Macros}
use Rattle.desk_api.specs.declared.fault.SiteFault.{SiteFault}
use Rattle.desk_api.specs.declared.history.SiteData.{SiteData}
use Rattle.prog_source.specs.Words.{Source}
use Rattle.prog_source.specs.declared.loading.SourceStop.{SourceStop}
use Rattle.prog_source.specs.declared.loading.SourceStop.TheVariants.{Fault}
use Rattle.prog_listen.specs.Listening.{Around, Front, Listens, listening_line}
use Rattle.prog_listen.specs.Setups.{searches_at}
use Rattle.prog_listen.specs.declared.asked.Listening.{Listening}
use Rattle.prog_listen.specs.declared.listened.Listened.{Listened}
use Rattle.prog_listen.specs.declared.listened.Listened.TheVariants as ends

-- What is to be bound was asked for at most once, and at this address.
abbrev pub AskedOnce : Option Bindings → Option Bindings → Peer → Type 0
AskedOnce old new at = (new ≡ old) ⊎ ((new ≡ and_asked old at) ⊎ (new ≡ and_bound old at))

-- At every end the listener and the datagrams were asked to bind at most once each, at the addresses of the words.
abbrev pub BindsAtMostOnce : Type 0
BindsAtMostOnce = (asked : Listening) (macros : Macros) (source : Source) (told : Option (ℤ × ℕ)) (old new : Around)
    (ended : Listened) → Listens asked macros source told old new ended
    → AskedOnce old.front.door.bindings new.front.door.bindings asked.at
    × AskedOnce old.front.datagrams.bindings new.front.datagrams.bindings (searches_at asked)

-- Where clients were served to an end, both are bound, and just the line was printed.
pub record WasOpen (asked : Listening) (old new : Front) : Type 0 where
  pub listener : new.door.bindings ≡ and_bound old.door.bindings asked.at
  pub datagrams : new.datagrams.bindings ≡ and_bound old.datagrams.bindings (searches_at asked)
  pub printed : Appends old.printed new.printed listening_line
  pub print_faults : new.print_faults ≡ old.print_faults

-- The accepts rose, and the last was the end; or they rose by as many as may be made.
abbrev pub AcceptedAll : ℕ → Door → Door → Type 0
AcceptedAll turns old new =
    (Rose old.accepts new.accepts × (new.at_end ≡ true)) ⊎ (new.accepts ≡ counted old.accepts turns)

-- why a run ended so
abbrev pub Because : Listening → Result SiteData SourceStop → Around → Around → Listened → Type 0
Because asked found old new ends.Finished =
    WasOpen asked old.front new.front × AcceptedAll asked.turns old.front.door new.front.door
    × (new.front.door.faults ≡ old.front.door.faults)
Because asked found old new ends.Unread = Rose old.files.faults new.files.faults
Because asked found old new ends.Faulty = (fault : SiteFault) × (found ≡ Err (Fault fault))
Because asked found old new ends.Unmade = Rose old.ports.faults new.ports.faults
Because asked found old new ends.Unbound = Rose old.front.door.faults new.front.door.faults
Because asked found old new ends.Unsearchable = Rose old.front.datagrams.faults new.front.datagrams.faults
Because asked found old new ends.Unprinted = Rose old.front.print_faults new.front.print_faults
Because asked found old new ends.AcceptFault =
    WasOpen asked old.front new.front × Rose old.front.door.faults new.front.door.faults
Because asked found old new ends.NoMemory = ⊤

-- Every end has its cause.
abbrev pub EveryEndHasItsCause : Type 0
EveryEndHasItsCause = (asked : Listening) (macros : Macros) (source : Source) (told : Option (ℤ × ℕ)) (old new : Around)
    (ended : Listened) (run : Listens asked macros source told old new ended) → Because asked run.found old new ended

-- The text has no fault, and no count of faults rose: of files, ports, listener, datagrams or prints.
pub record IsFaultless (asked : Listening) (old new : Around) (found : Result SiteData SourceStop) : Type 0 where
  pub text : (fault : SiteFault) → ¬ (found ≡ Err (Fault fault))
  pub files : ¬ (Rose old.files.faults new.files.faults)
  pub ports : ¬ (Rose old.ports.faults new.ports.faults)
  pub listener : ¬ (Rose old.front.door.faults new.front.door.faults)
  pub datagrams : ¬ (Rose old.front.datagrams.faults new.front.datagrams.faults)
  pub prints : ¬ (Rose old.front.print_faults new.front.print_faults)

-- Such a run ends when no client will come any more, or after so many accepts; or for want of memory.
abbrev pub FaultlessRunsFinish : Type 0
FaultlessRunsFinish = (asked : Listening) (macros : Macros) (source : Source) (told : Option (ℤ × ℕ)) (old new : Around)
    (ended : Listened) (run : Listens asked macros source told old new ended)
    → IsFaultless asked old new run.found → (ended ≡ ends.Finished) ⊎ (ended ≡ ends.NoMemory)
