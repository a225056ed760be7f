-- What holds of every stream.
use Rattle.std.specs.Prelude.{◌≡◌, ℕ, ◌+◌, ◌<◌, ◌≤◌, ◌^◌, Bool, false, List, [], ◌∷◌, ◌++◌, length, map, fold, Option, None, Ok, slice_index}
use Rattle.std.specs.List.{concat}
use Rattle.pva_wire.specs.declared.order.Order.{Order}
use Rattle.pva_frames.specs.declared.event.Whole.{Whole}
use Rattle.pva_frames.specs.declared.event.Event.{Event}
use Rattle.pva_frames.specs.declared.event.Event.TheVariants.{Message, Control}
use Rattle.pva_frames.specs.Headers.{magic}
use Rattle.pva_frames.specs.Frames.{Frame, size_of, has_frame, frames_from, held_from}
use Rattle.pva_frames.specs.Messages.{limit, Unfinished, events_from, left_from}
use Rattle.pva_frames.specs.Assembled.{Assembled, opening, fed}
use Rattle.pva_frames.specs.Spelling.{message_bytes, control_bytes}

-- what a whole stream brings
abbrev pub stream : List ℕ → Assembled
stream bytes = record { events = events_from 0 None bytes; left = left_from 0 None bytes }

-- A stream brings the same in whatever pieces it comes.
abbrev pub AnyPieces : Type 0
AnyPieces = (pieces : List (List ℕ)) → fold fed opening pieces ≡ stream (concat pieces)

-- a frame at this place: a header that begins with CA, and as many bytes behind it as it says
pub record IsFrameAt (at : ℕ) (frame : Frame) : Type 0 where
  pub place : frame.place ≡ at
  pub first : slice_index frame.bytes 0 ≡ magic
  pub whole : length frame.bytes ≡ size_of frame.bytes

-- each begins where the one before it ends
abbrev pub AreFrames : ℕ → List Frame → Type 0
AreFrames at [] = Unit {0}
AreFrames at (frame ∷ frames) = IsFrameAt at frame × AreFrames (at + length frame.bytes) frames

-- A list of bytes is its frames, one behind the other, and a rest that is no whole frame.
pub record IsCut (at : ℕ) (bytes : List ℕ) (frames : List Frame) (rest : List ℕ) : Type 0 where
  pub all : concat (map (λ frame. frame.bytes) frames) ++ rest ≡ bytes
  pub whole : AreFrames at frames
  pub unfinished : has_frame rest ≡ false

abbrev pub EveryCut : Type 0
EveryCut = (at : ℕ) (bytes : List ℕ) → IsCut at bytes (frames_from at bytes) (held_from at bytes)

-- where a stream stands between two messages
abbrev pub boundary : ℕ → Unfinished
boundary at = record { place = at; run = None; held = [] }

-- an event, and what the bytes behind it bring
abbrev pub and_then : List Event → Event → ℕ → Option Whole → List ℕ → Assembled
and_then events event at run bytes = record { events = events ++ event ∷ events_from at run bytes; left = left_from at run bytes }

-- A message that was written at a boundary is read as that message, whatever stands before it and follows.
abbrev pub MessageReadsBack : Type 0
MessageReadsBack = (before after payload : List ℕ) (at : ℕ) (order : Order) (server : Bool) (command segment : ℕ)
    → left_from 0 None before ≡ Ok (boundary at) → 0 < segment → length payload ≤ limit
    → stream (before ++ message_bytes order server command payload segment ++ after)
    ≡ and_then (events_from 0 None before) (Message (record { order = order; command = command; payload = payload; place = at }))
    (at + length (message_bytes order server command payload segment)) None after

-- The same for a control message, also inside a run of segments.
abbrev pub ControlReadsBack : Type 0
ControlReadsBack = (before after : List ℕ) (at : ℕ) (run : Option Whole) (order : Order) (server : Bool) (command number : ℕ)
    → left_from 0 None before ≡ Ok (record { place = at; run = run; held = [] }) → number < 2 ^ 32
    → stream (before ++ control_bytes order server command number ++ after)
    ≡ and_then (events_from 0 None before) (Control command number) (at + 8) run after
