-- What stands in a reader's fields.
use Rattle.std.specs.Prelude.{◌≡◌, ℕ, ◌+◌, ◌≤◌, ◌<◌, Bool, true, not, ◌&&◌, List, [], ◌∷◌, ◌++◌, length, take, drop, Option, None, Some, is_none, if◌then◌else◌}
use Rattle.pva_frames.specs.declared.event.Whole.{Whole}
use Rattle.pva_frames.specs.declared.event.Event.{Event}
use Rattle.pva_frames.specs.declared.event.Event.TheVariants.{Message, Control}
use Rattle.pva_frames.specs.declared.fault.FrameFault.{FrameFault}
use Rattle.pva_frames.specs.declared.reader.Run.{Run}
use Rattle.pva_frames.specs.declared.reader.Mark.{Mark}
use Rattle.pva_frames.specs.Frames.{has_frame}
use Rattle.pva_frames.specs.declared.header.Header.{Header}
use Rattle.pva_frames.specs.Headers.{segment_of}
use Rattle.pva_frames.specs.Messages.{Unfinished, refusal_of_rest, unless_refused, events_from, left_from, ends}
use Rattle.pva_frames.specs.Assembled.{Assembled}

-- how many bytes of the payload belong to the run
abbrev pub run_size : Option Run → ℕ
run_size None = 0
run_size (Some run) = run.length

-- the run, with its payload
abbrev pub run_of : Option Run → List ℕ → Option Whole
run_of None payload = None
run_of (Some run) payload = Some (record { order = run.order; command = run.command; payload = take run.length payload; place = run.place })

-- the payload of the run stands before that of the unfinished frame
abbrev pub unfinished_of : Mark → List ℕ → Unfinished
unfinished_of mark payload = record {
  place = mark.place;
  run = run_of mark.run payload;
  held = take mark.filled mark.head ++ drop (run_size mark.run) payload;
}

-- nothing of it is whole or refused
abbrev pub is_unfinished : Unfinished → Bool
is_unfinished left = not (has_frame left.held) && is_none (refusal_of_rest left.run left.held left.place)

-- the place behind its bytes
abbrev pub end_of : Unfinished → ℕ
end_of left = left.place + length left.held

-- a payload has bytes behind the run only where the header is whole
pub record IsSound (mark : Mark) (payload : List ℕ) : Type 0 where
  pub head : length mark.head ≡ 8
  pub filled : mark.filled ≤ 8
  pub run : run_size mark.run ≤ length payload
  pub header : mark.filled < 8 → length payload ≡ run_size mark.run
  pub unfinished : is_unfinished (unfinished_of mark payload) ≡ true

-- Behind these events, bytes that begin at this place behind this run bring all these events, and then a refused header
-- or what is unfinished.
abbrev pub Brings : List Event → ℕ → Option Whole → List ℕ → List Event → Option FrameFault → Unfinished → Type 0
Brings events at run bytes all fault after =
    (let a : Assembled = record { events = events ++ events_from at run bytes; left = left_from at run bytes } in a) ≡ record { events = all; left = unless_refused fault after }

-- the same for bytes behind what is unfinished
abbrev pub Takes : List Event → Unfinished → List ℕ → List Event → Option FrameFault → Unfinished → Type 0
Takes events left bytes all fault after = Brings events left.place left.run (left.held ++ bytes) all fault after

-- the message that a frame with this header ends or goes on with, when its payload stands behind that of the run
abbrev pub message_of : Option Run → Header → ℕ → List ℕ → Whole
message_of None head at payload = record { order = head.order; command = head.command; payload = payload; place = at }
message_of (Some run) head at payload = record { order = run.order; command = run.command; payload = payload; place = run.place }

abbrev pub message_event : Option Run → Header → ℕ → List ℕ → List Event
message_event run head at payload = if ends (segment_of head) then Message (message_of run head at payload) ∷ [] else []

-- a frame of an application message was ended
pub record EndsFrame (old : Mark) (payload : List ℕ) (header : Header) (new : Mark) (after : List ℕ) : Type 0 where
  pub place : new.place ≡ old.place + 8 + header.number
  pub filled : new.filled ≡ 0
  pub head : length new.head ≡ 8
  pub run : run_of new.run after ≡ (if ends (segment_of header) then None else Some (message_of old.run header old.place payload))
  pub size : run_size new.run ≡ length after

-- the payload of the first message among these, or else this one
abbrev pub first_payload : List Event → List ℕ → List ℕ
first_payload [] payload = payload
first_payload (Message whole ∷ events) payload = whole.payload
first_payload (Control command number ∷ events) payload = first_payload events payload

-- Events were added, and the payload that stood before is still there, longer or not: in the first message added, or
-- else in the new payload.
pub record Grows (old_events : List Event) (old_payload : List ℕ) (new_events : List Event) (new_payload : List ℕ) : Type 0 where
  pub added : List Event
  pub events : new_events ≡ old_events ++ added
  pub payload : take (length old_payload) (first_payload added new_payload) ≡ old_payload

-- The message stands whole in front of the piece, and its bytes bring it alone.
pub record IsLent (left : Unfinished) (piece : List ℕ) (whole : Whole) (after : Unfinished) : Type 0 where
  pub within : 8 + length whole.payload ≤ length piece
  pub brings : Takes [] left (take (8 + length whole.payload) piece) (Message whole ∷ []) None after
