-- A server of many clients, step by step: what each step comes to, and what follows it.
use Rattle.std.specs.Prelude.{◌≡◌, ◌⊎◌, ℕ, ℤ, List, Option, Result, Ok, Err, codes}
use Rattle.pva_outside.specs.Doors.{Door, BindsDoor}
use Rattle.pva_outside.specs.Files.{FilesView}
use Rattle.pva_outside.specs.Makers.{MakerView}
use Rattle.pva_outside.specs.Traffic.{DatagramsView, BindsDatagrams}
use Rattle.pva_outside.specs.declared.binding.BindStep.{BindStep}
use Rattle.pva_outside.specs.declared.binding.BindStep.TheVariants as binding
use Rattle.db_text.specs.Macros.{Macros}
use Rattle.hall_locks.specs.Hall.{first_view}
use Rattle.desk_api.specs.declared.history.Base.{Base}
use Rattle.desk_api.specs.declared.history.SiteData.{SiteData}
use Rattle.desk_shared.specs.Records.{Sight}
use Rattle.srv_stream.specs.Streams.{moment_told}
use Rattle.pva_search.specs.declared.setup.Setup.{Setup}
use Rattle.srv_host.specs.Hosting.{Hosts}
use Rattle.srv_host.specs.declared.hosted.Hosted.{Hosted}
use Rattle.srv_host.specs.declared.hosted.Hosted.TheVariants as hosts
use Rattle.prog_source.specs.Opening.{Opens, AllMade, OneUnmade, SomeMade}
use Rattle.prog_source.specs.Printing.{IsPrinted}
use Rattle.prog_source.specs.Words.{Source}
use Rattle.prog_source.specs.declared.loading.SourceStop.{SourceStop}
use Rattle.prog_source.specs.declared.loading.SourceStop.TheVariants as sources
use Rattle.prog_source.specs.declared.printing.Printed.{Printed}
use Rattle.prog_source.specs.declared.printing.Printed.TheVariants as printing
use Rattle.prog_listen.specs.Setups.{IsSetup, searches_at}
use Rattle.prog_listen.specs.declared.asked.Listening.{Listening}
use Rattle.prog_listen.specs.declared.listened.Listened.{Listened}
use Rattle.prog_listen.specs.declared.listened.Listened.TheVariants as ends

-- what clients meet of a server: its listener and its datagrams; and what it printed (None: not told), and how often
-- printing failed
pub record Front : Type 0 where
  pub door : Door
  pub datagrams : DatagramsView
  pub printed : Option (List ℕ)
  pub print_faults : ℕ

-- the front of these parts
abbrev pub front_of : Door → DatagramsView → Option (List ℕ) → ℕ → Front
front_of door datagrams printed faults = record {
  door = door;
  datagrams = datagrams;
  printed = printed;
  print_faults = faults;
}

-- what stands outside of it: its files, what makes its ports, and its front
pub record Around : Type 0 where
  pub files : FilesView
  pub ports : MakerView
  pub front : Front

-- The server stopped for this reason, and did nothing more.
pub record HasStopped (old new : Front) (ended why : Listened) : Type 0 where
  pub untouched : new ≡ old
  pub ended_is : ended ≡ why

-- how a server ended whose host answered so
abbrev pub end_of_host : Hosted → Listened
end_of_host (hosts.Finished served) = ends.Finished
end_of_host (hosts.AcceptFault served) = ends.AcceptFault
end_of_host (hosts.NoMemory served) = ends.NoMemory

-- what its history begins with
abbrev pub base_of : Listening → SiteData → Base
base_of asked site = record { site = site; limit = asked.journal }

-- what its host knows before any client came
abbrev pub first_sight : Listening → SiteData → Sight
first_sight asked site = first_view (base_of asked site)

-- Clients were served (`Hosts`), from a history that begins with the site and has no entry. Nothing was printed.
pub record HasHosted (asked : Listening) (site : SiteData) (told : Option (ℤ × ℕ)) (port : ℕ) (old new : Front)
    (ended : Listened) : Type 0 where
  pub setup : Setup
  pub setup_is : IsSetup asked told port setup
  pub sight : Sight
  pub hosted : Hosted
  pub hosts : Hosts site setup asked.beacon (moment_told told) asked.turns (first_sight asked site) sight
      old.door new.door old.datagrams new.datagrams hosted
  pub printed : new.printed ≡ old.printed
  pub print_faults : new.print_faults ≡ old.print_faults
  pub ended_is : ended ≡ end_of_host hosted

-- the line that tells that clients may come now
abbrev pub listening_line : List ℕ
listening_line = codes "listening\n"

abbrev pub FollowsLine : Listening → SiteData → Option (ℤ × ℕ) → ℕ → Printed → Front → Front → Listened → Type 0
FollowsLine asked site told port printing.Whole old new ended = HasHosted asked site told port old new ended
FollowsLine asked site told port printing.Failed old new ended = HasStopped old new ended ends.Unprinted
FollowsLine asked site told port printing.NoMemory old new ended = HasStopped old new ended ends.NoMemory

-- The line is printed. The listener is bound at this port, and the datagrams are bound.
pub record Announces (asked : Listening) (site : SiteData) (told : Option (ℤ × ℕ)) (port : ℕ) (old new : Front)
    (ended : Listened) : Type 0 where
  pub result : Printed
  pub printed : Option (List ℕ)
  pub print_faults : ℕ
  pub prints : IsPrinted old.printed printed old.print_faults print_faults listening_line result
  pub follows : FollowsLine asked site told port result (record old { printed = printed; print_faults = print_faults }) new
      ended

abbrev pub FollowsDatagrams : Listening → SiteData → Option (ℤ × ℕ) → ℕ → BindStep → Front → Front → Listened → Type 0
FollowsDatagrams asked site told port (binding.Bound udp) old new ended = Announces asked site told port old new ended
FollowsDatagrams asked site told port binding.Failed old new ended = HasStopped old new ended ends.Unsearchable
FollowsDatagrams asked site told port binding.NoMemory old new ended = HasStopped old new ended ends.NoMemory

-- The datagrams are bound. The listener is bound at this port.
pub record BindsDatagramsOf (asked : Listening) (site : SiteData) (told : Option (ℤ × ℕ)) (port : ℕ) (old new : Front)
    (ended : Listened) : Type 0 where
  pub step : BindStep
  pub datagrams : DatagramsView
  pub binds : BindsDatagrams old.datagrams datagrams step (searches_at asked)
  pub follows : FollowsDatagrams asked site told port step (record old { datagrams = datagrams }) new ended

abbrev pub FollowsListener : Listening → SiteData → Option (ℤ × ℕ) → BindStep → Front → Front → Listened → Type 0
FollowsListener asked site told (binding.Bound port) old new ended = BindsDatagramsOf asked site told port old new ended
FollowsListener asked site told binding.Failed old new ended = HasStopped old new ended ends.Unbound
FollowsListener asked site told binding.NoMemory old new ended = HasStopped old new ended ends.NoMemory

-- The listener is bound.
pub record BindsListenerOf (asked : Listening) (site : SiteData) (told : Option (ℤ × ℕ)) (old new : Front)
    (ended : Listened) : Type 0 where
  pub step : BindStep
  pub door : Door
  pub binds : BindsDoor old.door door step asked.at
  pub follows : FollowsListener asked site told step (record old { door = door }) new ended

-- The ports are made, in the order of the records. Memory may run out before anything is bound.
abbrev pub FollowsPorts : Listening → SiteData → Option (ℤ × ℕ) → Front → Front → Listened → Type 0
FollowsPorts asked site told old new ended =
    BindsListenerOf asked site told old new ended ⊎ HasStopped old new ended ends.NoMemory

abbrev pub MakesPortsOf : Listening → SiteData → Option (ℤ × ℕ) → MakerView → MakerView → Front → Front → Listened → Type 0
MakesPortsOf asked site told ports ports' old new ended =
    (AllMade site.configs ports ports' × FollowsPorts asked site told old new ended)
    ⊎ ((OneUnmade site.configs ports ports' × HasStopped old new ended ends.Unmade)
    ⊎ (SomeMade site.configs ports ports' × HasStopped old new ended ends.NoMemory))

-- how a server ended whose source gives no site
abbrev pub end_of_source : SourceStop → Listened
end_of_source sources.Unread = ends.Unread
end_of_source (sources.Fault fault) = ends.Faulty
end_of_source sources.NoMemory = ends.NoMemory

abbrev pub FollowsSource : Listening → Result SiteData SourceStop → Option (ℤ × ℕ) → MakerView → MakerView → Front → Front
    → Listened → Type 0
FollowsSource asked (Ok site) told ports ports' old new ended = MakesPortsOf asked site told ports ports' old new ended
FollowsSource asked (Err stop) told ports ports' old new ended =
    (ports' ≡ ports) × HasStopped old new ended (end_of_source stop)

-- One run of a server of many clients, at the moment that the clock tells: the source is opened, its ports are made, the
-- listener is bound, the datagrams are bound, the line is printed, and clients are served. It ends at the first of these
-- that fails.
pub record Listens (asked : Listening) (macros : Macros) (source : Source) (told : Option (ℤ × ℕ)) (old new : Around)
    (ended : Listened) : Type 0 where
  pub found : Result SiteData SourceStop
  pub opens : Opens macros source old.files new.files found
  pub follows : FollowsSource asked found told old.ports new.ports old.front new.front ended
