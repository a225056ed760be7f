-- What a client is behind the bytes of its server.
use Rattle.std.specs.Prelude.{◌≡◌, ◌<◌, ℕ, Bool, true, false, ◌||◌, List, [], ◌∷◌, ◌++◌, length, None, Some, Result, Ok, Err, ⊤}
use Rattle.std.specs.List.{list_any}
use Rattle.std.specs.Result.{result_err}
use Rattle.histories.specs.History.{IsPrefixOf}
use Rattle.pva_frames.specs.Assembled.{Assembled, fault_from}
use Rattle.pva_frames.specs.Laws.{stream}
use Rattle.pva_frames.specs.declared.event.Event.{Event}
use Rattle.pva_frames.specs.declared.fault.FrameFault.{FrameFault}
use Rattle.cli_session.specs.Calls.{Stands}
use Rattle.cli_session.specs.Fitting.{told_fits}
use Rattle.cli_session.specs.Seen.{report_view}
use Rattle.cli_session.specs.Steps.{Told, part, of_type, refusal, finish, client_told, client_bytes, client_fault}
use Rattle.cli_session.specs.Views as client
use Rattle.cli_session.specs.declared.ask.Ask.{Ask}
use Rattle.cli_session.specs.declared.fault.ClientFault.{ClientFault}
use Rattle.cli_session.specs.declared.fault.ClientFault.TheVariants as faults
use Rattle.cli_futures.specs.declared.end.ExchangeEnd.{ExchangeEnd}
use Rattle.cli_futures.specs.declared.end.ExchangeEnd.TheVariants as ends
use Rattle.cli_futures.specs.declared.end.Step.{Step}
use Rattle.cli_futures.specs.declared.end.Step.TheVariants as steps
use Rattle.cli_futures.specs.declared.stream_client.StreamClient.{StreamClient}

-- the events of a stream
abbrev pub events_in : List ℕ → List Event
events_in bytes = (stream bytes).events

-- all that a client tells to these bytes of its server, and all that it says
abbrev pub told_to : Ask → List ℕ → List Told
told_to ask read = client_told ask (events_in read)

abbrev pub said_to : Ask → List ℕ → List ℕ
said_to ask read = client_bytes ask (events_in read)

-- The operation ends with this.
abbrev pub ends_it : Told → Bool
ends_it (part p overrun) = false
ends_it (of_type t) = false
ends_it (refusal status) = true
ends_it finish = true

-- it has ended in this
abbrev pub has_end : List Told → Bool
has_end told = list_any ends_it told

-- What it was asked for, the client, what its stream has brought, and whether the operation has ended in what was handed
-- out.
pub record ClientView : Type 0 where
  pub ask : Ask
  pub client : client.View
  pub stream : Assembled
  pub over : Bool

abbrev pub client_view : StreamClient → ClientView
client_view c = record { ask = client.ask_of c.client; client = client.view_of c.client; stream = c.stream; over = c.over }

-- It has taken these bytes, and heard the first of their events; this was handed out of what it told, and these bytes were
-- written of what it says.
pub record HasTaken (ask : Ask) (read written : List ℕ) (told : List Told) (v : ClientView) : Type 0 where
  pub asks : v.ask ≡ ask
  pub heard : List Event
  pub stands : Stands ask heard told written v.client
  pub events : events_in read ≡ heard ++ v.stream.events
  pub left : v.stream.left ≡ (stream read).left
  pub over : v.over ≡ has_end told

-- All was handed out and heard, and no header was refused before the operation had ended.
pub record IsWaiting (v : ClientView) : Type 0 where
  pub told : v.client.told ≡ []
  pub heard : v.stream.events ≡ []
  pub sound : v.over ≡ false → result_err v.stream.left ≡ None

-- Single calls.

-- This was handed out, the next of what it told, if there is one.
pub record HandsOut (v w : ClientView) (next : List Told) : Type 0 where
  pub keeps : (ask : Ask) (read written : List ℕ) (told : List Told) → HasTaken ask read written told v
      → HasTaken ask read written (told ++ next) w
  pub all : next ≡ [] → w.client.told ≡ []
  pub stream : w.stream ≡ v.stream

-- how an exchange ends whose client has failed so
abbrev pub end_for : ClientFault → ExchangeEnd
end_for faults.NoMemory = ends.NoMemory
end_for fault = ends.Client fault

-- The client takes every event of these bytes. Until the operation ends no header among them is refused.
pub record IsSound (ask : Ask) (read : List ℕ) : Type 0 where
  pub events : client_fault ask (events_in read) ≡ None
  pub headers : has_end (told_to ask read) ≡ false → fault_from 0 None read ≡ None

-- This header is the first that is refused, and the client takes every event before it and the operation doesn't end in
-- them. All that is told was handed out.
pub record IsRefused (ask : Ask) (read : List ℕ) (told : List Told) (fault : FrameFault) : Type 0 where
  pub events : client_fault ask (events_in read) ≡ None
  pub first : fault_from 0 None read ≡ Some fault
  pub unended : has_end told ≡ false
  pub all : told ≡ told_to ask read

-- The client doesn't take an event of these bytes. All that is told before it was handed out.
pub record IsUntaken (ask : Ask) (read : List ℕ) (told : List Told) (fault : ClientFault) : Type 0 where
  pub first : client_fault ask (events_in read) ≡ Some fault
  pub all : told ≡ told_to ask read

-- Why a client stops among the bytes of its server.
abbrev pub IsStopped : Ask → List ℕ → List Told → ExchangeEnd → Type 0
IsStopped ask read told (ends.Frame fault) = IsRefused ask read told fault
IsStopped ask read told (ends.Client fault) = IsUntaken ask read told fault
IsStopped ask read told ends.NoMemory = IsPrefixOf told (told_to ask read)
IsStopped ask read told other = ⊥

-- The same, and these bytes are the first of what it says.
pub record HasStopped (ask : Ask) (read written : List ℕ) (told : List Told) (end : ExchangeEnd) : Type 0 where
  pub stopped : IsStopped ask read told end
  pub begins : IsPrefixOf written (said_to ask read)

-- an event was heard
pub record HeardNext (v w : ClientView) : Type 0 where
  pub keeps : (ask : Ask) (read written : List ℕ) (told : List Told) → HasTaken ask read written told v
      → HasTaken ask read written told w
  pub fewer : length w.stream.events < length v.stream.events

-- none was left
pub record HeardAll (v w : ClientView) : Type 0 where
  pub same : w ≡ v
  pub heard : v.stream.events ≡ []
  pub sound : v.over ≡ false → result_err v.stream.left ≡ None

-- The client stops here, where all that it told was handed out.
abbrev pub Stops : ClientView → ExchangeEnd → Type 0
Stops v end = (ask : Ask) (read written : List ℕ) (told : List Told) → HasTaken ask read written told v
    → v.client.told ≡ [] → HasStopped ask read written told end

-- a client stops an exchange so
abbrev pub IsStop : ExchangeEnd → Type 0
IsStop (ends.Frame fault) = ⊤
IsStop (ends.Client fault) = ⊤
IsStop ends.NoMemory = ⊤
IsStop other = ⊥

abbrev pub HearsNext : ClientView → ClientView → Result Bool ExchangeEnd → Type 0
HearsNext v w (Ok true) = HeardNext v w
HearsNext v w (Ok false) = HeardAll v w
HearsNext v w (Err end) = IsStop end × Stops v end

-- a header that is refused stops it, unless the operation has ended
abbrev pub Refuses : Bool → FrameFault → Result Bool ExchangeEnd → Type 0
Refuses true fault result = result ≡ Ok false
Refuses false fault result = result ≡ Err (ends.Frame fault)

-- Events were heard until something was told, which was handed out; or all was heard; or it stopped.
abbrev pub HearsBy : ClientView → Ask → List ℕ → List ℕ → List Told → Step → Type 0
HearsBy w ask read written told (steps.Told report) = HasTaken ask read written (told ++ report_view report ∷ []) w
HearsBy w ask read written told steps.Waits = HasTaken ask read written told w × IsWaiting w
HearsBy w ask read written told (steps.Ended end) = HasStopped ask read written told end

abbrev pub Hears : ClientView → ClientView → Step → Type 0
Hears v w step =
    (ask : Ask) (read written : List ℕ) (told : List Told) → HasTaken ask read written told v
    → HearsBy w ask read written told step

abbrev pub StopsSo : Step → Type 0
StopsSo (steps.Told report) = ⊤
StopsSo steps.Waits = ⊤
StopsSo (steps.Ended end) = IsStop end

-- what was told fits its type
abbrev pub StepFits : Step → Type 0
StepFits (steps.Told report) = told_fits (report_view report) ≡ true
StepFits steps.Waits = ⊤
StepFits (steps.Ended end) = ⊤
