-- What the client's end is behind the bytes that it took and gave.
use Rattle.std.specs.Prelude.{◌≡◌, ℕ, List, [], ◌∷◌, ◌++◌, Option, None, Some, Result, Ok, Err, ⊤}
use Rattle.std.specs.Io.KnownBytes.{Appends}
use Rattle.std.specs.Result.{result_err}
use Rattle.pva_outside.specs.Count.{Rose}
use Rattle.pva_frames.specs.Assembled.{Assembled, fault_from}
use Rattle.pva_frames.specs.Messages.{events_from, left_from}
use Rattle.pva_frames.specs.declared.event.Event.{Event}
use Rattle.pvd_codec.specs.Written.{CanEach}
use Rattle.histories.specs.History.{IsPrefixOf}
use Rattle.cli_session.specs.Calls.{Stands}
use Rattle.cli_session.specs.Laws.{CanWrite}
use Rattle.cli_session.specs.Steps.{Told, part, of_type, refusal, finish, client_told, client_sent, client_bytes, client_fault}
use Rattle.cli_session.specs.Text.{client_text}
use Rattle.cli_session.specs.Views as client
use Rattle.cli_session.specs.declared.ask.Ask.{Ask}
use Rattle.prog_source.specs.Printing.{IsPart}
use Rattle.cli_within.specs.declared.client_end.ClientEnd.{ClientEnd}
use Rattle.cli_within.specs.declared.stop.Ending.{Ending}
use Rattle.cli_within.specs.declared.stop.Ending.TheVariants as endings
use Rattle.cli_within.specs.declared.stop.Stop.{Stop}
use Rattle.cli_within.specs.declared.stop.Stop.TheVariants as stops

-- the events of a stream, from its beginning on
abbrev pub events_in : List ℕ → List Event
events_in bytes = events_from 0 None bytes

-- how an operation ended of which this was told, if it did
abbrev pub ending_of : List Told → Option Ending
ending_of [] = None
ending_of (part p overrun ∷ told) = ending_of told
ending_of (of_type t ∷ told) = ending_of told
ending_of (refusal status ∷ told) = Some endings.Refused
ending_of (finish ∷ told) = Some endings.Finished

-- What it was asked for, the client, what its stream has brought, and how its operation ended.
pub record ClientView : Type 0 where
  pub ask : Ask
  pub client : client.View
  pub stream : Assembled
  pub ended : Option Ending

abbrev pub client_view : ClientEnd → ClientView
client_view c = record {
  ask = client.ask_of c.client;
  client = client.view_of c.client;
  stream = c.stream;
  ended = c.ended;
}

-- It has heard these events and taken each, all that it told was handed out, and these of its bytes were taken.
pub record HasHeard (ask : Ask) (events : List Event) (given : List ℕ) (v : ClientView) : Type 0 where
  pub asks : v.ask ≡ ask
  pub stands : Stands ask events (client_told ask events) given v.client
  pub ended : v.ended ≡ ending_of (client_told ask events)

-- It has taken these bytes, and heard all their events. No header among them is refused, unless the operation has ended.
pub record HasTaken (ask : Ask) (taken given : List ℕ) (v : ClientView) : Type 0 where
  pub heard : HasHeard ask (events_in taken) given v
  pub none : v.stream.events ≡ []
  pub left : v.stream.left ≡ left_from 0 None taken
  pub sound : v.ended ≡ None → result_err v.stream.left ≡ None

-- This was printed, and printing didn't fail.
pub record HasPrinted (start now : Option (List ℕ)) (faults faults' : ℕ) (text : List ℕ) : Type 0 where
  pub printed : Appends start now text
  pub same : faults' ≡ faults

-- What is printed of all that the server's bytes have the client tell.
abbrev pub text_for : Ask → List ℕ → List ℕ
text_for ask taken = client_text ask (events_in taken)

-- Why it stopped among these events: nothing can be printed any more, or no memory can be had, and a front of the text was
-- printed; or one of them isn't taken, or a header behind them is refused before the operation has ended, and all that is
-- told before was printed.
abbrev pub IsStopped : Ask → List Event → Option (List ℕ) → Option (List ℕ) → ℕ → ℕ → Stop → Type 0
IsStopped ask events start now before after stops.Sink =
    IsPart start now (client_text ask events) × Rose before after
IsStopped ask events start now before after stops.NoMemory =
    IsPart start now (client_text ask events) × (after ≡ before)
IsStopped ask events start now before after (stops.Client fault) =
    HasPrinted start now before after (client_text ask events) × (client_fault ask events ≡ Some fault)
IsStopped ask events start now before after (stops.Frame fault) =
    HasPrinted start now before after (client_text ask events)
    × ((client_fault ask events ≡ None) × (ending_of (client_told ask events) ≡ None))

-- the header that is refused is the first in these bytes
abbrev pub IsRefused : List ℕ → Stop → Type 0
IsRefused taken (stops.Frame fault) = fault_from 0 None taken ≡ Some fault
IsRefused taken other = ⊤

-- Why it stopped at these bytes of the server.
pub record HasStopped (ask : Ask) (taken : List ℕ) (start now : Option (List ℕ)) (before after : ℕ) (stop : Stop)
    : Type 0 where
  pub stopped : IsStopped ask (events_in taken) start now before after stop
  pub refused : IsRefused taken stop

-- These bytes are the first of those that some events have the client send, which come first among these. All that is
-- sent for them has a spelling.
pub record BeginsBy (ask : Ask) (events : List Event) (given : List ℕ) : Type 0 where
  pub heard : List Event
  pub later : List Event
  pub all : events ≡ heard ++ later
  pub written : CanEach CanWrite (client_sent ask heard)
  pub front : IsPrefixOf given (client_bytes ask heard)

-- the same of the events of the server's bytes
abbrev pub Begins : Ask → List ℕ → List ℕ → Type 0
Begins ask taken given = BeginsBy ask (events_in taken) given

-- It has taken these bytes, or has stopped at them.
abbrev pub Hears : Ask → List ℕ → List ℕ → ClientView → Option (List ℕ) → Option (List ℕ) → ℕ → ℕ
    → Result (Unit {0}) Stop → Type 0
Hears ask taken given v start now before after (Ok u) =
    HasTaken ask taken given v × HasPrinted start now before after (text_for ask taken)
Hears ask taken given v start now before after (Err stop) =
    HasStopped ask taken start now before after stop × Begins ask taken given
