-- What single calls of a link do in an exchange over it.
use Rattle.std.specs.Prelude.{◌≡◌, ◌⊎◌, ℕ, ◌+◌, ◌<◌, ◌≤◌, Bool, true, false, List, [], ◌++◌, length, take, Result, Ok, Err}
use Rattle.pva_frames.specs.Assembled.{fed}
use Rattle.pva_outside.specs.Wire.{Wire, CameToEnd, Failed, Gave, Idled, Taken, Unchanged}
use Rattle.cli_session.specs.Steps.{Told}
use Rattle.cli_session.specs.declared.ask.Ask.{Ask}
use Rattle.cli_futures.specs.Taking.{ClientView, HasTaken}
use Rattle.cli_futures.specs.declared.due.Due.{Due}
use Rattle.cli_futures.specs.declared.due.Due.TheVariants as dues
use Rattle.cli_futures.specs.declared.end.ExchangeEnd.{ExchangeEnd}
use Rattle.cli_futures.specs.declared.end.ExchangeEnd.TheVariants as ends
use Rattle.cli_futures.specs.declared.end.Patience.{Patience}

-- how often in a row no byte moved, behind a further call
abbrev pub idles_after : ℕ → Bool → ℕ
idles_after idles true = 0
idles_after idles false = idles + 1

-- something is to be written, or the operation hasn't ended
abbrev pub IsOpen : ClientView → Type 0
IsOpen v = (0 < length v.client.output) ⊎ (v.over ≡ false)

-- what is due on an open link
abbrev pub IsDueWithin : ℕ → ℕ → Patience → Due → Type 0
IsDueWithin idles calls p dues.Call = (idles < p.idle) × (calls < p.turns)
IsDueWithin idles calls p (dues.End (ends.IdleLimit n)) = (n ≡ p.idle) × (p.idle ≤ idles)
IsDueWithin idles calls p (dues.End (ends.Spent n)) = (n ≡ p.turns) × (p.turns ≤ calls)
IsDueWithin idles calls p (dues.End other) = ⊥

-- What is due where so often in a row no byte moved, behind so many calls.
abbrev pub IsDue : ClientView → ℕ → ℕ → Patience → Due → Type 0
IsDue v idles calls p dues.Call = IsOpen v × (idles < p.idle) × (calls < p.turns)
IsDue v idles calls p (dues.End ends.Done) = (v.client.output ≡ []) × (v.over ≡ true)
IsDue v idles calls p (dues.End (ends.IdleLimit n)) = IsOpen v × (n ≡ p.idle) × (p.idle ≤ idles)
IsDue v idles calls p (dues.End (ends.Spent n)) = IsOpen v × (n ≡ p.turns) × (p.turns ≤ calls)
IsDue v idles calls p (dues.End other) = ⊥

-- the first bytes of what the client says were taken
pub record Wrote (begin end : Wire) (v w : ClientView) : Type 0 where
  pub count : ℕ
  pub taken : Taken begin end count v.client.output
  pub keeps : (ask : Ask) (read written : List ℕ) (told : List Told) → HasTaken ask read written told v
      → HasTaken ask read (written ++ take count v.client.output) told w

-- none was taken yet, or none came
pub record MovedNothing (begin end : Wire) (v w : ClientView) : Type 0 where
  pub idled : Idled begin end
  pub view : w ≡ v

abbrev pub WritesSome : Wire → Wire → ClientView → ClientView → Result Bool ExchangeEnd → Type 0
WritesSome begin end v w (Ok true) = Wrote begin end v w
WritesSome begin end v w (Ok false) = MovedNothing begin end v w
WritesSome begin end v w (Err ends.LinkFault) = Failed begin end
WritesSome begin end v w (Err ends.NoMemory) = Unchanged begin end
WritesSome begin end v w (Err other) = ⊥

-- a piece came, and the client took it
pub record ReadOn (begin end : Wire) (v w : ClientView) : Type 0 where
  pub count : ℕ
  pub buffer : List ℕ
  pub gave : Gave begin end count buffer
  pub view : w ≡ record v { stream = fed v.stream (take count buffer) }

-- a piece came, and there was no memory for it
pub record ReadShort (begin end : Wire) : Type 0 where
  pub count : ℕ
  pub buffer : List ℕ
  pub gave : Gave begin end count buffer

abbrev pub ReadsSome : Wire → Wire → ClientView → ClientView → Result Bool ExchangeEnd → Type 0
ReadsSome begin end v w (Ok true) = ReadOn begin end v w
ReadsSome begin end v w (Ok false) = MovedNothing begin end v w
ReadsSome begin end v w (Err ends.EarlyEnd) = CameToEnd begin end
ReadsSome begin end v w (Err ends.LinkFault) = Failed begin end
ReadsSome begin end v w (Err ends.NoMemory) = ReadShort begin end ⊎ Unchanged begin end
ReadsSome begin end v w (Err other) = ⊥

-- One call: a write where the client has something to say, else a read.
abbrev pub Calls : Wire → Wire → ClientView → ClientView → Result Bool ExchangeEnd → Type 0
Calls begin end v w result =
    ((v.client.output ≡ []) × ReadsSome begin end v w result)
    ⊎ ((0 < length v.client.output) × WritesSome begin end v w result)
