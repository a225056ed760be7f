-- What pieces of a stream make a session say.
use Rattle.std.specs.Prelude.{◌≡◌, ℕ, ℤ, ◌<◌, ◌≤◌, Bool, true, length, take, List, [], ◌∷◌, ◌++◌, Option, None, Some, is_some, Result, Ok, Err}
use Rattle.std.specs.Result.{result_err}
use Rattle.pva_frames.specs.Messages.{Unfinished}
use Rattle.pva_frames.specs.Reader.{is_unfinished}
use Rattle.pva_frames.specs.Assembled.{Assembled, fed, place_of_fault}
use Rattle.pva_frames.specs.declared.event.Whole.{Whole}
use Rattle.pva_frames.specs.declared.event.Event.{Event}
use Rattle.pva_frames.specs.declared.event.Event.TheVariants.{Message, Control}
use Rattle.pva_frames.specs.declared.fault.FrameFault.{FrameFault}
use Rattle.histories.specs.History.{IsPrefixOf}
use Rattle.desk_api.specs.Calls.{Adds, HaveMoment}
use Rattle.desk_api.specs.declared.history.SiteData.{SiteData}
use Rattle.desk_api.specs.declared.mark.Mark.{Mark}
use Rattle.desk_api.specs.declared.mark.Seat.{Seat}
use Rattle.srv_session.specs.Calls.{Shown}
use Rattle.srv_session.specs.State.{State, slots_of}
use Rattle.srv_session.specs.Tasks.{Hearing, asks, unreadable, over_range, heard}
use Rattle.mon_window.specs.declared.window.WindowFault.TheVariants.{OverRange}
use Rattle.srv_session.specs.Steps.{Step, hears, bytes_of, after_step, IsStep, AreSteps, state_after, events_of, marks_of, out_of, PartOf, EventPart, after_part, left_by_hearing}
use Rattle.srv_session.specs.Replies.{Sent}
use Rattle.srv_session.specs.declared.stop.SessionStop.{SessionStop}
use Rattle.srv_session.specs.declared.stop.SessionStop.TheVariants as stops
use Rattle.srv_stream.specs.declared.ended.StreamFault.TheVariants as faults
use Rattle.srv_stream.specs.declared.ended.Ended.{Ended}
use Rattle.srv_stream.specs.declared.ended.Ended.TheVariants as ends
use Rattle.journal_core.specs.Moments.{Moment}

-- the moment that a clock tells, if it tells one
abbrev pub moment_told : Option (ℤ × ℕ) → Option Moment
moment_told None = None
moment_told (Some told) = Some (record { seconds = told.0; nanoseconds = told.1 })

-- What is left is neither whole nor refused, unless a header was.
abbrev pub is_sound : Result Unfinished FrameFault → Bool
is_sound (Ok left) = is_unfinished left
is_sound (Err fault) = true

-- how a message that has no answer ends the connection
abbrev pub stop_at : Whole → Hearing → Option Ended
stop_at whole (asks task types) = None
stop_at whole (unreadable fault) = Some (ends.Bad (faults.Message fault) whole.place)
stop_at whole over_range = Some (ends.Bad (faults.Window OverRange) whole.place)

-- the same of every event; control messages always have an answer
abbrev pub stop_of : SiteData → State → Event → Option Ended
stop_of site s (Message whole) = stop_at whole (heard site s (Message whole))
stop_of site s (Control command number) = None

-- how a header that is refused ends the connection
abbrev pub refused : Result Unfinished FrameFault → Option Ended
refused (Ok left) = None
refused (Err fault) = Some (ends.Bad (faults.Frame fault) (place_of_fault fault))

-- What stands behind the events that were answered: nothing, or a header that is refused; or an event that has no
-- answer.
abbrev pub Stands : SiteData → State → List Event → Result Unfinished FrameFault → Option Ended → Type 0
Stands site s [] left trouble = trouble ≡ refused left
Stands site s (e ∷ more) left trouble = (trouble ≡ stop_of site s e) × (is_some (stop_of site s e) ≡ true)

-- From the state s these events make these steps, up to the first trouble.
pub record Follows (site : SiteData) (s : State) (stream : Assembled) (steps : List Step)
    (trouble : Option Ended) : Type 0 where
  pub rules : AreSteps site s steps
  pub remaining : List Event
  pub all : stream.events ≡ events_of steps ++ remaining
  pub stands : Stands site (state_after site s steps) remaining stream.left trouble

-- what a serving is, for its contracts: the session's state, what its assembler stands for, and what is to be written
pub record View : Type 0 where
  pub state : State
  pub stream : Assembled
  pub pending : List ℕ

-- the session of a serving beside its desk's seat
abbrev pub shown_in : Seat → View → Shown
shown_in seat v = record { seat = seat; state = v.state; output = v.pending }

-- what the stream has brought is as it was
abbrev pub SameStream : View → View → Type 0
SameStream v w = w.stream ≡ v.stream

-- So far these bytes made these steps; the events that they brought beside are still to be answered.
pub record Passed (old new : Seat) (told : Option Moment) (v w : View) (bytes : List ℕ) : Type 0 where
  pub steps : List Step
  pub rules : AreSteps old.seen.base.site v.state steps
  pub events : (fed v.stream bytes).events ≡ events_of steps ++ w.stream.events
  pub left : w.stream.left ≡ (fed v.stream bytes).left
  pub state : w.state ≡ state_after old.seen.base.site v.state steps
  pub adds : Adds old new (marks_of steps)
  pub moments : HaveMoment told (marks_of steps)
  pub out : w.pending ≡ v.pending ++ out_of old.seen.base.site v.state steps

-- All events of the bytes were answered, and no header was refused.
pub record FedOn (old new : Seat) (told : Option Moment) (v w : View) (bytes : List ℕ) : Type 0 where
  pub passed : Passed old new told v w bytes
  pub none : w.stream.events ≡ []
  pub sound : result_err w.stream.left ≡ None

-- Something in the bytes ends the connection, and all before it was answered.
pub record FedUpTo (old new : Seat) (told : Option Moment) (v w : View) (bytes : List ℕ) (ended : Ended) : Type 0 where
  pub steps : List Step
  pub subscribed : slots_of w.state.requests ≡ slots_of (state_after old.seen.base.site v.state steps).requests
  pub follows : Follows old.seen.base.site v.state (fed v.stream bytes) steps (Some ended)
  pub adds : Adds old new (marks_of steps)
  pub moments : HaveMoment told (marks_of steps)
  pub out : w.pending ≡ v.pending ++ out_of old.seen.base.site v.state steps

-- Memory ran out: a part of the events was answered, and marks of one more row may stand in the log.
pub record FedPart (old new : Seat) (told : Option Moment) (v w : View) (bytes : List ℕ) : Type 0 where
  pub steps : List Step
  pub more : List Mark
  pub rules : AreSteps old.seen.base.site v.state steps
  pub front : IsPrefixOf (events_of steps) (fed v.stream bytes).events
  pub part : EventPart old.seen.base.site (state_after old.seen.base.site v.state steps) front.rest more
  pub subscribed : slots_of w.state.requests
      ≡ slots_of (after_part old.seen.base.site (state_after old.seen.base.site v.state steps) front.rest more).requests
  pub adds : Adds old new (marks_of steps ++ more)
  pub moments : HaveMoment told (marks_of steps ++ more)
  pub out : w.pending ≡ v.pending ++ out_of old.seen.base.site v.state steps

-- whether a feeding ends so: at a fault of the stream
abbrev pub FedErr : Seat → Seat → Option Moment → View → View → List ℕ → Ended → Type 0
FedErr old new told v w bytes (ends.Bad fault place) = FedUpTo old new told v w bytes (ends.Bad fault place)
FedErr old new told v w bytes ends.NoMemory = FedPart old new told v w bytes
FedErr old new told v w bytes ended = ⊥

abbrev pub Feeds : Seat → Seat → Option Moment → View → View → List ℕ → Result (Unit {0}) Ended → Type 0
Feeds old new told v w bytes (Ok u) = FedOn old new told v w bytes
Feeds old new told v w bytes (Err ended) = FedErr old new told v w bytes ended

-- Some bytes of a piece were taken, or something in it ends the connection.
pub record Took (old new : Seat) (told : Option Moment) (v w : View) (piece : List ℕ) (count : ℕ) : Type 0 where
  pub some : 0 < count
  pub within : count ≤ length piece
  pub passed : Passed old new told v w (take count piece)

abbrev pub TakesSome : Seat → Seat → Option Moment → View → View → List ℕ → Result ℕ Ended → Type 0
TakesSome old new told v w piece (Ok count) = Took old new told v w piece count
TakesSome old new told v w piece (Err ended) = FedErr old new told v w piece ended

-- One event, which the stream brought, was answered or wasn't. The stream is as before.

abbrev pub stop_as : ℕ → SessionStop → Ended
stop_as place (stops.Message fault) = ends.Bad (faults.Message fault) place
stop_as place (stops.Window fault) = ends.Bad (faults.Window fault) place
stop_as place stops.NoMemory = ends.NoMemory

pub record AnsweredEvent (old new : Seat) (moment : Moment) (v w : View) (e : Event) : Type 0 where
  pub marks : List Mark
  pub sent : List Sent
  pub rule : IsStep old.seen.base.site v.state (hears e marks sent)
  pub state : w.state ≡ after_step old.seen.base.site v.state (hears e marks sent)
  pub adds : Adds old new marks
  pub moments : HaveMoment (Some moment) marks
  pub out : w.pending ≡ v.pending ++ bytes_of v.state (hears e marks sent)
  pub stream : w.stream ≡ v.stream

pub record UnansweredEvent (old new : Seat) (v w : View) (e : Event) (ended : Ended) : Type 0 where
  pub seat : new ≡ old
  pub subscribed : slots_of w.state.requests ≡ slots_of v.state.requests
  pub stop : stop_of old.seen.base.site v.state e ≡ Some ended
  pub out : w.pending ≡ v.pending

pub record PartOfEvent (old new : Seat) (moment : Moment) (v w : View) (e : Event) : Type 0 where
  pub marks : List Mark
  pub part : PartOf old.seen.base.site v.state (heard old.seen.base.site v.state e) marks
  pub subscribed : slots_of w.state.requests
      ≡ slots_of (left_by_hearing old.seen.base.site v.state (heard old.seen.base.site v.state e) marks).requests
  pub adds : Adds old new marks
  pub moments : HaveMoment (Some moment) marks
  pub out : w.pending ≡ v.pending

abbrev pub AnswersEventErr : Seat → Seat → Moment → View → View → Event → Ended → Type 0
AnswersEventErr old new moment v w e ends.NoMemory = PartOfEvent old new moment v w e
AnswersEventErr old new moment v w e ended = UnansweredEvent old new v w e ended

abbrev pub AnswersEvent : Seat → Seat → Moment → View → View → Event → Result (Unit {0}) Ended → Type 0
AnswersEvent old new moment v w e (Ok u) = AnsweredEvent old new moment v w e
AnswersEvent old new moment v w e (Err ended) = AnswersEventErr old new moment v w e ended
