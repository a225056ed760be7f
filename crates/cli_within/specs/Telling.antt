-- What single calls of the client's end do.
use Rattle.std.specs.Prelude.{◌≡◌, ℕ, List, [], ◌∷◌, ◌++◌, Option, None, Some, Result, Ok, Err}
use Rattle.std.specs.List.{flat_map}
use Rattle.std.specs.Result.{result_err}
use Rattle.pva_outside.specs.Count.{Rose}
use Rattle.pva_frames.specs.declared.event.Event.{Event}
use Rattle.cli_session.specs.Calls.{Stands}
use Rattle.cli_session.specs.Steps.{Told}
use Rattle.cli_session.specs.Text.{told_text, client_text}
use Rattle.cli_session.specs.declared.ask.Ask.{Ask}
use Rattle.cli_session.specs.declared.fault.ClientFault.{ClientFault}
use Rattle.cli_session.specs.declared.fault.ClientFault.TheVariants as faults
use Rattle.prog_source.specs.Printing.{IsPart}
use Rattle.cli_within.specs.Ends.{BeginsBy, ClientView, HasHeard, HasPrinted, IsStopped, ending_of}
use Rattle.cli_within.specs.declared.stop.Ending.{Ending}
use Rattle.cli_within.specs.declared.stop.Stop.{Stop}
use Rattle.cli_within.specs.declared.stop.Stop.TheVariants as stops

-- A text was printed, or a front of it.
abbrev pub Puts : Option (List ℕ) → Option (List ℕ) → ℕ → ℕ → List ℕ → Result (Unit {0}) Stop → Type 0
Puts start now before after text (Ok u) = HasPrinted start now before after text
Puts start now before after text (Err stops.Sink) = IsPart start now text × Rose before after
Puts start now before after text (Err stops.NoMemory) = IsPart start now text × (after ≡ before)
Puts start now before after text (Err other) = ⊥

-- how a client that failed stops its end
abbrev pub stop_for : ClientFault → Stop
stop_for faults.NoMemory = stops.NoMemory
stop_for fault = stops.Client fault

-- the first of two endings
abbrev pub first_ending : Option Ending → Option Ending → Option Ending
first_ending None later = later
first_ending (Some ending) later = Some ending

-- the lines of all that is told
abbrev pub lines_of : List Told → List ℕ
lines_of told = flat_map told_text told

-- All that was told was handed out and printed.
pub record HasToldAll (old new : ClientView) : Type 0 where
  pub stands : (ask : Ask) (events : List Event) (told : List Told) (given : List ℕ) → old.ask ≡ ask
      → Stands ask events told given old.client → Stands ask events (told ++ old.client.told) given new.client
  pub ended : new.ended ≡ first_ending old.ended (ending_of old.client.told)

abbrev pub Tells : ClientView → ClientView → Option (List ℕ) → Option (List ℕ) → ℕ → ℕ
    → Result (Unit {0}) Stop → Type 0
Tells old new start now before after (Ok u) =
    HasToldAll old new × HasPrinted start now before after (lines_of old.client.told)
Tells old new start now before after (Err stop) =
    Puts start now before after (lines_of old.client.told) (Err stop)

-- It has heard these events too, or has stopped among them, whatever follows. A header behind them may be refused.
abbrev pub HearsEvents : Ask → List Event → List ℕ → ClientView → Option (List ℕ) → Option (List ℕ) → ℕ → ℕ
    → Result (Unit {0}) Stop → Type 0
HearsEvents ask events given v start now before after (Ok u) =
    HasHeard ask events given v × HasPrinted start now before after (client_text ask events)
HearsEvents ask events given v start now before after (Err stop) =
    IsStopped ask events start now before after stop × BeginsBy ask events given

-- an event, behind others
abbrev pub HearsEvent : Ask → List Event → Event → List ℕ → ClientView → Option (List ℕ) → Option (List ℕ) → ℕ → ℕ
    → Result (Unit {0}) Stop → Type 0
HearsEvent ask events e given v start now before after (Ok u) =
    HearsEvents ask (events ++ e ∷ []) given v start now before after (Ok u)
HearsEvent ask events e given v start now before after (Err stop) =
    (more : List Event) → HearsEvents ask (events ++ e ∷ more) given v start now before after (Err stop)

-- no header of its stream was refused, unless the operation has ended; or this is the one
abbrev pub Refuses : ClientView → Result (Unit {0}) Stop → Type 0
Refuses v (Ok u) = v.ended ≡ None → result_err v.stream.left ≡ None
Refuses v (Err (stops.Frame fault)) = v.stream.left ≡ Err fault
Refuses v (Err stop) = Unit {0}

-- nothing that the stream has brought is left
abbrev pub IsEmptied : ClientView → Result (Unit {0}) Stop → Type 0
IsEmptied v (Ok u) = v.stream.events ≡ []
IsEmptied v (Err stop) = Unit {0}

-- it is no header that stops
abbrev pub IsUnframed : Result (Unit {0}) Stop → Type 0
IsUnframed (Err (stops.Frame fault)) = ⊥
IsUnframed other = Unit {0}
