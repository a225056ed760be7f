-- The messages of a list of frames: one frame, or a first, any middle and a last segment of one command, with control
-- messages between them (pvAccess Protocol Specification, "Message Header", flags). A header can be refused; then
-- nothing behind it counts.
use Rattle.std.specs.Prelude.{ℕ, ◌+◌, Bool, true, false, List, [], ◌∷◌, ◌++◌, length, nat_le, ◌==◌, Option, None, Some, Result, Ok, Err, if◌then◌else◌}
use Rattle.pva_frames.specs.Headers.{magic, header_of, is_control, segment_of}
use Rattle.pva_frames.specs.Frames.{Frame, header, payload, frames_from, place_from, held_from}
use Rattle.pva_frames.specs.declared.header.Header.{Header}
use Rattle.pva_frames.specs.declared.header.Segment.{Segment}
use Rattle.pva_frames.specs.declared.header.Segment.TheVariants.{Single, First, Middle, Last}
use Rattle.pva_frames.specs.declared.event.Whole.{Whole}
use Rattle.pva_frames.specs.declared.event.Event.{Event}
use Rattle.pva_frames.specs.declared.event.Event.TheVariants.{Message, Control}
use Rattle.pva_frames.specs.declared.fault.FrameFault.{FrameFault}
use Rattle.pva_frames.specs.declared.fault.FrameFault.TheVariants.{BadMagic, TooLong, BadSegment}

-- the greatest joined payload, 64 MiB
abbrev pub limit : ℕ
limit = 67108864

-- A run of segments stands as the message so far: the order, the command and the place of its first header, and the
-- payloads joined.

-- what refuses a payload of so many bytes behind so many
abbrev pub length_refusal : ℕ → Header → ℕ → Option FrameFault
length_refusal joined head at = if nat_le (joined + head.number) limit then None else Some (TooLong (joined + head.number) at)

-- what refuses a header that doesn't fit the run of this command, or that no run stands for
abbrev pub foreign : Option ℕ → Header → ℕ → Option FrameFault
foreign have head at = Some (BadSegment have head.command at)

-- what refuses a further segment of this run
abbrev pub segment_refusal : Whole → Header → ℕ → Option FrameFault
segment_refusal run head at =
    if run.command == head.command then length_refusal (length run.payload) head at
    else foreign (Some run.command) head at

-- what refuses a whole message, or the first segment of one
abbrev pub first_refusal : Option Whole → Header → ℕ → Option FrameFault
first_refusal None head at = length_refusal 0 head at
first_refusal (Some run) head at = foreign (Some run.command) head at

-- what refuses a middle or last segment
abbrev pub later_refusal : Option Whole → Header → ℕ → Option FrameFault
later_refusal None head at = foreign None head at
later_refusal (Some run) head at = segment_refusal run head at

-- what refuses a header of an application message
abbrev pub refusal_by : Segment → Option Whole → Header → ℕ → Option FrameFault
refusal_by Single run head at = first_refusal run head at
refusal_by First run head at = first_refusal run head at
refusal_by Middle run head at = later_refusal run head at
refusal_by Last run head at = later_refusal run head at

-- why the header at this place is refused behind the run that stands, if it is; control messages never are
abbrev pub refusal : Option Whole → Header → ℕ → Option FrameFault
refusal run head at = if is_control head then None else refusal_by (segment_of head) run head at

-- the message so far, with this frame's payload
abbrev pub joined : Option Whole → Frame → Whole
joined None frame = record { order = (header frame).order; command = (header frame).command; payload = payload frame; place = frame.place }
joined (Some run) frame = record { order = run.order; command = run.command; payload = run.payload ++ payload frame; place = run.place }

-- this frame ends its message
abbrev pub ends : Segment → Bool
ends Single = true
ends First = false
ends Middle = false
ends Last = true

-- the event that a frame completes, if it completes one
abbrev pub event_of : Option Whole → Frame → List Event
event_of run frame =
    if is_control (header frame) then Control (header frame).command (header frame).number ∷ []
    else if ends (segment_of (header frame)) then Message (joined run frame) ∷ []
    else []

-- the run that stands behind a frame
abbrev pub run_after : Option Whole → Frame → Option Whole
run_after run frame =
    if is_control (header frame) then run
    else if ends (segment_of (header frame)) then None
    else Some (joined run frame)

-- where a stream stands: a run of segments or none, or the refusal of a header
abbrev pub Standing : Type 0
Standing = Result (Option Whole) FrameFault

-- this, where no header is refused
abbrev pub unless_refused : {X : Type 0} → Option FrameFault → X → Result X FrameFault
unless_refused None x = Ok x
unless_refused (Some fault) x = Err fault

-- these events, where the header isn't refused
abbrev pub gives : Option FrameFault → List Event → List Event
gives None events = events
gives (Some fault) events = []

-- where it stands behind one more frame
abbrev pub after : Standing → Frame → Standing
after (Err fault) frame = Err fault
after (Ok run) frame = unless_refused (refusal run (header frame) frame.place) (run_after run frame)

-- the event that this frame completes
abbrev pub given : Standing → Frame → List Event
given (Err fault) frame = []
given (Ok run) frame = gives (refusal run (header frame) frame.place) (event_of run frame)

-- the events of the frames before the first that is refused, in the order of their last bytes
unfoldable pub events_of : Standing → List Frame → List Event
events_of s [] = []
events_of s (frame ∷ frames) = given s frame ++ events_of (after s frame) frames

-- where the stream stands behind these frames
unfoldable pub standing_after : Standing → List Frame → Standing
standing_after s [] = s
standing_after s (frame ∷ frames) = standing_after (after s frame) frames

-- why an unfinished frame is refused, as far as its bytes tell: at once where the first is not CA, and where the header
-- is whole
abbrev pub refusal_of_rest : Option Whole → List ℕ → ℕ → Option FrameFault
refusal_of_rest run [] at = None
refusal_of_rest run (b ∷ bytes) at =
    if b == magic
    then (if nat_le 8 (length (b ∷ bytes)) then refusal run (header_of (b ∷ bytes)) at else None)
    else Some (BadMagic b at)

-- what bytes leave for those that follow: the place, the run that stands, and the bytes of the unfinished frame
pub record Unfinished : Type 0 where
  pub place : ℕ
  pub run : Option Whole
  pub held : List ℕ

-- what is left behind the frames, where their rest isn't refused
abbrev pub left_by : Standing → ℕ → List ℕ → Result Unfinished FrameFault
left_by (Err fault) at held = Err fault
left_by (Ok run) at held = unless_refused (refusal_of_rest run held at) (record { place = at; run = run; held = held })

-- the events of bytes that begin at this place, behind this run
abbrev pub events_from : ℕ → Option Whole → List ℕ → List Event
events_from at run bytes = events_of (Ok run) (frames_from at bytes)

-- what they leave, or the first header that is refused
unfoldable pub left_from : ℕ → Option Whole → List ℕ → Result Unfinished FrameFault
left_from at run bytes = left_by (standing_after (Ok run) (frames_from at bytes)) (place_from at bytes) (held_from at bytes)
