-- What the server's end is behind the bytes that it took and gave, beside its desk's seat, and what its calls do.
use Rattle.std.specs.Prelude.{◌≡◌, ℕ, List, [], ◌++◌, Option, None, Some, Result, Ok, Err}
use Rattle.pva_wire.specs.declared.order.Order.TheVariants.{Little}
use Rattle.pva_frames.specs.Assembled.{opening as unread, fed}
use Rattle.pva_frames.specs.declared.event.Event.{Event}
use Rattle.desk_api.specs.Calls.{Adds, HaveMoment}
use Rattle.desk_api.specs.declared.mark.Mark.{Mark}
use Rattle.desk_api.specs.declared.mark.Seat.{Seat}
use Rattle.journal_core.specs.Moments.{Moment}
use Rattle.srv_session.specs.Calls.{AreLiving, Holds, IsOf}
use Rattle.srv_session.specs.Replies.{greeting}
use Rattle.srv_session.specs.State.{opening, slots_of}
use Rattle.srv_session.specs.Steps.{Step, AreSteps, IsDrained, NextPart, after_part, state_after, events_of, marks_of, out_of}
use Rattle.srv_stream.specs.Streams as streams
use Rattle.srv_stream.specs.Streams.{Follows}
use Rattle.srv_stream.specs.declared.ended.Ended.{Ended}
use Rattle.srv_stream.specs.declared.ended.Ended.TheVariants as ends
use Rattle.srv_stream.specs.Views.{view_of}
use Rattle.pvd_type.specs.declared.memory.NoMemory.{NoMemory}
use Rattle.cli_within.specs.declared.server_end.ServerEnd.{ServerEnd}

-- It has heard these bytes, made these steps of them, and these of its bytes were taken. Where something in them ends the
-- connection, that stands in `over`.
pub record HasServed (first seat : Seat) (told : Option Moment) (heard given : List ℕ) (v : streams.View)
    (over : Option Ended) : Type 0 where
  pub steps : List Step
  pub follows : Follows first.seen.base.site (opening Little) (fed unread heard) steps over
  pub state : over ≡ None → v.state ≡ state_after first.seen.base.site (opening Little) steps
  pub none : over ≡ None → v.stream.events ≡ []
  pub left : over ≡ None → v.stream.left ≡ (fed unread heard).left
  pub slots :
      slots_of v.state.requests ≡ slots_of (state_after first.seen.base.site (opening Little) steps).requests
  pub adds : Adds first seat (marks_of steps)
  pub moments : HaveMoment told (marks_of steps)
  pub bytes : greeting Little ++ out_of first.seen.base.site (opening Little) steps ≡ given ++ v.pending

-- Memory ran out: some of the events were answered, and marks of the row of the next, or of one more pop, may stand.
pub record HasBroken (first seat : Seat) (told : Option Moment) (heard given : List ℕ) (v : streams.View)
    : Type 0 where
  pub steps : List Step
  pub later : List Event
  pub more : List Mark
  pub rules : AreSteps first.seen.base.site (opening Little) steps
  pub all : (fed unread heard).events ≡ events_of steps ++ later
  pub part : NextPart first.seen.base.site (state_after first.seen.base.site (opening Little) steps) later more
  pub slots :
      slots_of v.state.requests
      ≡ slots_of (after_part first.seen.base.site (state_after first.seen.base.site (opening Little) steps) later more).requests
  pub adds : Adds first seat (marks_of steps ++ more)
  pub moments : HaveMoment told (marks_of steps ++ more)
  pub bytes : greeting Little ++ out_of first.seen.base.site (opening Little) steps ≡ given ++ v.pending

-- It may go on: its channels and requests are those of its desk's site, and its subscriptions live there.
pub record IsReady (seat : Seat) (v : streams.View) : Type 0 where
  pub site : IsOf seat.seen.base.site v.state
  pub holds : Holds seat.log v.state

-- its subscriptions can be ended
abbrev pub IsLiving : Seat → streams.View → Type 0
IsLiving seat v = AreLiving seat.log (slots_of v.state.requests)

-- Nothing is to be written, and nothing is unread that may be sent.
pub record IsDry (first seat : Seat) (told : Option Moment) (heard given : List ℕ) (v : streams.View) : Type 0 where
  pub served : HasServed first seat told heard given v None
  pub empty : v.pending ≡ []
  pub drained : IsDrained first.seen.base.site (opening Little) served.steps

abbrev pub served_view : ServerEnd → streams.View
served_view s = view_of s.serving

abbrev pub over_of : ServerEnd → Option Ended
over_of s = s.over

-- It closes at this fault of what it heard; want of memory is none.
abbrev pub Closes : Ended → Option Ended → Result (Unit {0}) NoMemory → Type 0
Closes ended over (Ok u) = (over ≡ Some ended) × (ended ≡ ends.NoMemory → ⊥)
Closes ended over (Err e) = ended ≡ ends.NoMemory

-- It has heard these bytes, or memory ran out among them.
abbrev pub Serves : Seat → Seat → Option Moment → List ℕ → List ℕ → streams.View → Option Ended
    → Result (Unit {0}) NoMemory → Type 0
Serves first seat told heard given v over (Ok u) = HasServed first seat told heard given v over
Serves first seat told heard given v over (Err e) = HasBroken first seat told heard given v

-- where its end isn't closed, nothing is unread that may be sent
abbrev pub DryIf : Seat → Seat → Option Moment → List ℕ → List ℕ → streams.View → Option Ended → Type 0
DryIf first seat told heard given v None = IsDry first seat told heard given v
DryIf first seat told heard given v (Some ended) = Unit {0}

-- Its monitors were popped, where nothing was to be written: then something is, or nothing is unread.
pub record HasFilled (first seat : Seat) (told : Option Moment) (heard given : List ℕ) (v : streams.View)
    (over : Option Ended) : Type 0 where
  pub served : HasServed first seat told heard given v over
  pub dry : v.pending ≡ [] → DryIf first seat told heard given v over

abbrev pub Fills : Seat → Seat → Option Moment → List ℕ → List ℕ → streams.View → Option Ended
    → Result (Unit {0}) NoMemory → Type 0
Fills first seat told heard given v over (Ok u) = HasFilled first seat told heard given v over
Fills first seat told heard given v over (Err e) = HasBroken first seat told heard given v
