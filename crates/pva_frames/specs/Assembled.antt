-- What contracts see of an assembler: the events that are complete and not yet given, and what the bytes so far leave.
use Rattle.std.specs.Prelude.{◌≡◌, ◌<◌, ◌≤◌, ◌+◌, ℕ, List, [], ◌∷◌, ◌++◌, length, take, Option, None, Some, Result, Ok, Err}
use Rattle.std.specs.Result.{result_err}
use Rattle.pva_frames.specs.Messages.{Unfinished, events_from, left_from}
use Rattle.pva_frames.specs.declared.event.Whole.{Whole}
use Rattle.pva_frames.specs.declared.event.Event.{Event}
use Rattle.pva_frames.specs.declared.event.Event.TheVariants.{Message}
use Rattle.pva_frames.specs.declared.event.Next.{Next}
use Rattle.pva_frames.specs.declared.event.Next.TheVariants as next
use Rattle.pva_frames.specs.declared.fault.FrameFault.{FrameFault}
use Rattle.pva_frames.specs.declared.fault.FrameFault.TheVariants.{BadMagic, TooLong, BadSegment}

pub record Assembled : Type 0 where
  pub events : List Event
  pub left : Result Unfinished FrameFault

-- at the start of a stream
abbrev pub start : Unfinished
start = record { place = 0; run = None; held = [] }

-- before the first piece
abbrev pub opening : Assembled
opening = record { events = []; left = Ok start }

-- behind a header that is refused, bytes mean nothing
abbrev pub fed_on : List Event → Result Unfinished FrameFault → List ℕ → Assembled
fed_on events (Err fault) bytes = record { events = events; left = Err fault }
fed_on events (Ok left) bytes = record {
  events = events ++ events_from left.place left.run (left.held ++ bytes);
  left = left_from left.place left.run (left.held ++ bytes);
}

-- further bytes
abbrev pub fed : Assembled → List ℕ → Assembled
fed old bytes = fed_on old.events old.left bytes

-- the first header that is refused
abbrev pub fault_from : ℕ → Option Whole → List ℕ → Option FrameFault
fault_from at run bytes = result_err (left_from at run bytes)

-- the place of the header that is refused
abbrev pub place_of_fault : FrameFault → ℕ
place_of_fault (BadMagic byte place) = place
place_of_fault (TooLong length place) = place
place_of_fault (BadSegment have came place) = place

-- the place of an unfinished frame
abbrev pub rest_of_frame : ℕ → List ℕ → Option ℕ
rest_of_frame at [] = None
rest_of_frame at (b ∷ bytes) = Some at

-- the place of the run that stands, or else of an unfinished frame
abbrev pub rest_of_run : Option Whole → ℕ → List ℕ → Option ℕ
rest_of_run None at held = rest_of_frame at held
rest_of_run (Some run) at held = Some run.place

-- none at a message boundary; else the place of the first header of the run that stands, or of the unfinished frame; a
-- header that is refused stands unfinished
abbrev pub rest_of : Result Unfinished FrameFault → Option ℕ
rest_of (Ok left) = rest_of_run left.run left.place left.held
rest_of (Err fault) = Some (place_of_fault fault)

-- the rest of bytes that begin at this place, behind this run
abbrev pub rest_from : ℕ → Option Whole → List ℕ → Option ℕ
rest_from at run bytes = rest_of (left_from at run bytes)

-- the first event was given
pub record Gave (old new : Assembled) (event : Event) : Type 0 where
  pub first : old.events ≡ event ∷ new.events
  pub left : new.left ≡ old.left

-- no event is complete, and this header was refused
pub record Refused (old new : Assembled) (fault : FrameFault) : Type 0 where
  pub none : old.events ≡ []
  pub first : old.left ≡ Err fault
  pub unchanged : new ≡ old

-- no event is complete, and no header was refused
pub record Waits (old new : Assembled) : Type 0 where
  pub none : old.events ≡ []
  pub sound : result_err old.left ≡ None
  pub unchanged : new ≡ old

-- A message stood whole in front of the piece, where nothing was ready: its bytes bring it alone, and it was given.
pub record Lends (old new : Assembled) (piece : List ℕ) (whole : Whole) : Type 0 where
  pub none : old.events ≡ []
  pub within : 8 + length whole.payload ≤ length piece
  pub brings : fed old (take (8 + length whole.payload) piece) ≡ record { events = Message whole ∷ []; left = new.left }
  pub given : new.events ≡ []

-- some bytes of a piece were taken, at least one
pub record TookPart (old new : Assembled) (piece : List ℕ) (count : ℕ) : Type 0 where
  pub some : 0 < count
  pub within : count ≤ length piece
  pub taken : new ≡ fed old (take count piece)

-- what the next answer is, and what it leaves; without memory nothing changes
abbrev pub GivesNext : {E : Type 0} → Assembled → Assembled → Result Next E → Type 0
GivesNext old new (Ok (next.Event event)) = Gave old new event
GivesNext old new (Ok (next.Fault fault)) = Refused old new fault
GivesNext old new (Ok next.More) = Waits old new
GivesNext old new (Err e) = new ≡ old
