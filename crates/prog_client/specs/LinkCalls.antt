-- What single calls of a link do in an exchange over it.
use Rattle.std.specs.Prelude.{◌≡◌, ◌⊎◌, ℕ, ◌+◌, ◌<◌, ◌≤◌, Bool, true, false, List, [], ◌++◌, length, take, Option, None, Some, Result, Ok, Err}
use Rattle.pva_outside.specs.Wire.{Wire, CameToEnd, Failed, Gave, Idled, Taken, Unchanged}
use Rattle.cli_session.specs.declared.ask.Ask.{Ask}
use Rattle.cli_within.specs.Ends.{ClientView, HasPrinted, HasTaken, Hears, text_for}
use Rattle.prog_client.specs.declared.dialing.Due.{Due}
use Rattle.prog_client.specs.declared.dialing.Due.TheVariants as dues
use Rattle.prog_client.specs.declared.outcome.Outcome.{Outcome}
use Rattle.prog_client.specs.declared.outcome.Outcome.TheVariants as outcomes
use Rattle.prog_client.specs.declared.outcome.Patience.{Patience}
use Rattle.cli_within.specs.declared.stop.Ending.{Ending}
use Rattle.cli_within.specs.declared.stop.Stop.{Stop}
use Rattle.cli_within.specs.declared.stop.Stop.TheVariants as stops

-- how often nothing moved since the last byte, behind a further call
abbrev pub idles_after : ℕ → Bool → ℕ
idles_after idles true = 0
idles_after idles false = idles + 1

-- something is to be written, or the operation hasn't ended
abbrev pub IsOpen : ClientView → Type 0
IsOpen v = (0 < length v.client.output) ⊎ (v.ended ≡ None)

-- The operation ended so and all that the client says was taken; or the link is open.
abbrev pub IsDone : ClientView → Option Ending → Type 0
IsDone v (Some ending) = (v.client.output ≡ []) × (v.ended ≡ Some ending)
IsDone v None = IsOpen v

-- what is due on an open link
abbrev pub IsDueWithin : ℕ → ℕ → Patience → Due → Type 0
IsDueWithin idles calls p dues.Call = (idles < p.idle) × (calls < p.turns)
IsDueWithin idles calls p (dues.End outcomes.Idle) = p.idle ≤ idles
IsDueWithin idles calls p (dues.End outcomes.Spent) = p.turns ≤ calls
IsDueWithin idles calls p (dues.End other) = ⊥

-- What is due where nothing moved so often since the last byte, behind so many calls.
abbrev pub IsDue : ClientView → ℕ → ℕ → Patience → Due → Type 0
IsDue v idles calls p dues.Call = IsOpen v × (idles < p.idle) × (calls < p.turns)
IsDue v idles calls p (dues.End (outcomes.Told ending)) = (v.client.output ≡ []) × (v.ended ≡ Some ending)
IsDue v idles calls p (dues.End outcomes.Idle) = IsOpen v × (p.idle ≤ idles)
IsDue v idles calls p (dues.End outcomes.Spent) = IsOpen v × (p.turns ≤ calls)
IsDue v idles calls p (dues.End other) = ⊥

-- A write.

-- the first bytes of what the client says were taken
pub record Wrote (begin end : Wire) (v w : ClientView) : Type 0 where
  pub count : ℕ
  pub taken : Taken begin end count v.client.output
  pub gives : (ask : Ask) (read given : List ℕ) → HasTaken ask read given v
      → HasTaken ask read (given ++ take count v.client.output) w

-- none was taken yet
pub record WroteNothing (begin end : Wire) (v w : ClientView) : Type 0 where
  pub idled : Idled begin end
  pub view : w ≡ v

abbrev pub WritesSome : Wire → Wire → ClientView → ClientView → Result Bool Outcome → Type 0
WritesSome begin end v w (Ok true) = Wrote begin end v w
WritesSome begin end v w (Ok false) = WroteNothing begin end v w
WritesSome begin end v w (Err outcomes.Failed) = Failed begin end
WritesSome begin end v w (Err (outcomes.Stopped stops.NoMemory)) = Unchanged begin end
WritesSome begin end v w (Err other) = ⊥

-- A read.

-- nothing was printed
pub record IsQuiet (start now : Option (List ℕ)) (before after : ℕ) : Type 0 where
  pub printed : now ≡ start
  pub faults : after ≡ before

-- A piece came, and the client heard it.
pub record ReadOn (begin end : Wire) (v w : ClientView) (start now : Option (List ℕ)) (before after : ℕ)
    (result : Result (Unit {0}) Stop) : Type 0 where
  pub count : ℕ
  pub buffer : List ℕ
  pub gave : Gave begin end count buffer
  pub hears : (ask : Ask) (first : Option (List ℕ)) (faults : ℕ) (taken given : List ℕ) → HasTaken ask taken given v
      → HasPrinted first start faults before (text_for ask taken)
      → Hears ask (taken ++ take count buffer) given w first now faults after result

-- nothing came yet
pub record ReadNothing (begin end : Wire) (v w : ClientView) (start now : Option (List ℕ)) (before after : ℕ)
    : Type 0 where
  pub idled : Idled begin end
  pub view : w ≡ v
  pub quiet : IsQuiet start now before after

abbrev pub ReadsSome : Wire → Wire → ClientView → ClientView → Option (List ℕ) → Option (List ℕ) → ℕ → ℕ
    → Result Bool Outcome → Type 0
ReadsSome begin end v w start now before after (Ok true) = ReadOn begin end v w start now before after (Ok tt)
ReadsSome begin end v w start now before after (Ok false) = ReadNothing begin end v w start now before after
ReadsSome begin end v w start now before after (Err outcomes.Closed) =
    CameToEnd begin end × IsQuiet start now before after
ReadsSome begin end v w start now before after (Err outcomes.Failed) =
    Failed begin end × IsQuiet start now before after
ReadsSome begin end v w start now before after (Err (outcomes.Stopped stops.NoMemory)) =
    ReadOn begin end v w start now before after (Err stops.NoMemory)
    ⊎ (Unchanged begin end × IsQuiet start now before after)
ReadsSome begin end v w start now before after (Err (outcomes.Stopped stop)) =
    ReadOn begin end v w start now before after (Err stop)
ReadsSome begin end v w start now before after (Err other) = ⊥

-- One call: a write where the client has something to say, else a read.
abbrev pub Turns : Wire → Wire → ClientView → ClientView → Option (List ℕ) → Option (List ℕ) → ℕ → ℕ
    → Result Bool Outcome → Type 0
Turns begin end v w start now before after result =
    ((v.client.output ≡ []) × ReadsSome begin end v w start now before after result)
    ⊎ ((0 < length v.client.output) × WritesSome begin end v w result × IsQuiet start now before after)
