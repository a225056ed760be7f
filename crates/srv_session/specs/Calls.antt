-- What the calls of a session do.
use Rattle.std.specs.Prelude.{◌≡◌, ◌==◌, ◌≢◌, ℕ, Bool, true, false, List, [], ◌∷◌, ◌++◌, Some, Result, Ok, Err}
use Rattle.std.specs.Prelude.{IsTrue, ⊤}
use Rattle.std.specs.List.{list_any}
use Rattle.std.specs.FinMap.{get as at}
use Rattle.std.specs.FinSet as set
use Rattle.chan_table.specs.declared.ask.AskKind.TheVariants as kinds
use Rattle.pva_frames.specs.declared.event.Event.{Event}
use Rattle.pvd_codec.specs.Written.{CanEach}
use Rattle.pvd_type.specs.declared.memory.NoMemory.{NoMemory}
use Rattle.journal_core.specs.Moments.{Moment}
use Rattle.desk_api.specs.Calls.{Adds, HaveMoment}
use Rattle.desk_api.specs.Sites.{is_channel, has_values}
use Rattle.desk_api.specs.Types.{type_of, HoldsLeaves}
use Rattle.desk_api.specs.declared.channel.Channel.{Channel}
use Rattle.desk_api.specs.declared.history.SiteData.{SiteData}
use Rattle.desk_api.specs.declared.mark.Mark.{Mark}
use Rattle.desk_api.specs.Living.{Living, living, lives}
use Rattle.desk_api.specs.declared.mark.Seat.{Seat}
use Rattle.desk_api.specs.declared.sub.Sub.{Sub}
use Rattle.srv_session.specs.State.{State, Channels, Asked, channel_at, due, slots_of}
use Rattle.srv_session.specs.Replies.{Sent, IsSayable, spelled_all, is_call}
use Rattle.srv_session.specs.Tasks.{Task, Hearing, unreadable, over_range, heard}
use Rattle.srv_session.specs.Rows.{Row, Part, after_task, left_by}
use Rattle.srv_session.specs.Steps.{Step, pops, IsAnswer, PartOf, UnsentPop, AreSteps, AreEndings, after_hearing}
use Rattle.srv_session.specs.Steps.{left_by_hearing, state_after, marks_of, sent_in, out_of}
use Rattle.srv_session.specs.declared.stop.SessionStop.{SessionStop}
use Rattle.srv_session.specs.declared.stop.SessionStop.TheVariants as stops

-- A session is one of a site where its channels are the site's, and its requests are on open channels, each for at
-- least one leaf of its channel, but for calls.

-- it has selected leaves of the channel, which has values, at least one
pub record Selects (site : SiteData) (channel : Channel) (ask : Asked) : Type 0 where
  pub valued : IsTrue (has_values channel)
  pub leaves : HoldsLeaves (type_of site channel) ask.mask
  pub some : ask.mask ≢ set.empty

pub record IsAskOf (site : SiteData) (channels : Channels) (ask : Asked) : Type 0 where
  pub channel : Channel
  pub open_ : channel_at channels ask.sid ≡ Some channel
  pub selects : is_call ask.kind ≡ false → Selects site channel ask

pub record IsOf (site : SiteData) (s : State) : Type 0 where
  pub channels : (sid : ℕ) (channel : Channel) → channel_at s.channels sid ≡ Some channel
      → IsTrue (is_channel site channel)
  pub requests : (req : ℕ) (ask : Asked) → at s.requests req ≡ Some ask → IsAskOf site s.channels ask

-- A session holds its subscriptions: each lives by the log of its desk's seat, on its request's channel with its request's
-- leaves, and no other request has it. Only monitors have one.

pub record IsHeld (log : List Mark) (channels : Channels) (ask : Asked) (slot : ℕ) : Type 0 where
  pub subscribed : Living
  pub there : living log slot ≡ Some subscribed
  pub channel_is : channel_at channels ask.sid ≡ Some subscribed.channel
  pub mask_is : subscribed.mask ≡ ask.mask
  pub kind_is : ask.kind ≡ kinds.Monitor

pub record Holds (log : List Mark) (s : State) : Type 0 where
  pub held : (req : ℕ) (ask : Asked) (sub : Sub) → at s.requests req ≡ Some ask → ask.sub ≡ Some sub
      → IsHeld log s.channels ask sub.slot
  pub apart : (a b : ℕ) (one other : Asked) (x y : Sub) → at s.requests a ≡ Some one → at s.requests b ≡ Some other
      → one.sub ≡ Some x → other.sub ≡ Some y → x.slot ≡ y.slot → a ≡ b

-- Each of these slots has a living subscription by this log, and none stands twice.
abbrev pub AreLiving : List Mark → List ℕ → Type 0
AreLiving log [] = ⊤
AreLiving log (slot ∷ slots) =
    ((lives log slot ≡ true) × (list_any (λ other. other == slot) slots ≡ false)) × AreLiving log slots

-- what a session and its desk show
pub record Shown : Type 0 where
  pub seat : Seat
  pub state : State
  pub output : List ℕ

abbrev pub site_of : Shown → SiteData
site_of x = x.seat.seen.base.site

-- A task was answered by its row. An entry that it made has the moment of the call.
pub record Answered (old new : Shown) (moment : Moment) (task : Task) : Type 0 where
  pub marks : List Mark
  pub sent : List Sent
  pub row : Row (site_of old) old.state task marks sent
  pub sayable : CanEach IsSayable sent
  pub adds : Adds old.seat new.seat marks
  pub moments : HaveMoment (Some moment) marks
  pub state : new.state ≡ after_task (site_of old) old.state task marks
  pub output : new.output ≡ old.output ++ spelled_all old.state.order old.state.segment sent

-- Memory ran out in it. The session then has the subscriptions that the marks leave.
pub record GaveUp (old new : Shown) (moment : Moment) (part : List Mark → Type 0) (left : List Mark → State)
    : Type 0 where
  pub marks : List Mark
  pub part_is : part marks
  pub adds : Adds old.seat new.seat marks
  pub moments : HaveMoment (Some moment) marks
  pub subscribed : slots_of new.state.requests ≡ slots_of (left marks).requests
  pub output : new.output ≡ old.output

-- One call of a row's function, by its answer.
abbrev pub Takes : Shown → Shown → Moment → Task → Result (Unit {0}) NoMemory → Type 0
Takes old new moment task (Ok u) = Answered old new moment task
Takes old new moment task (Err e) =
    GaveUp old new moment (Part (site_of old) old.state task) (left_by (site_of old) old.state task)

-- What was heard was answered.
pub record Replied (old new : Shown) (moment : Moment) (hearing : Hearing) : Type 0 where
  pub marks : List Mark
  pub sent : List Sent
  pub answers : IsAnswer (site_of old) old.state hearing marks sent
  pub sayable : CanEach IsSayable sent
  pub adds : Adds old.seat new.seat marks
  pub moments : HaveMoment (Some moment) marks
  pub state : new.state ≡ after_hearing (site_of old) old.state hearing marks
  pub output : new.output ≡ old.output ++ spelled_all old.state.order old.state.segment sent

-- It has no answer, and nothing has changed.
pub record Stopped (old new : Shown) (hearing without : Hearing) : Type 0 where
  pub heard_is : hearing ≡ without
  pub seat : new.seat ≡ old.seat
  pub subscribed : slots_of new.state.requests ≡ slots_of old.state.requests
  pub output : new.output ≡ old.output

abbrev pub Heeds : Shown → Shown → Moment → Hearing → Result (Unit {0}) SessionStop → Type 0
Heeds old new moment hearing (Ok u) = Replied old new moment hearing
Heeds old new moment hearing (Err (stops.Message fault)) = Stopped old new hearing (unreadable fault)
Heeds old new moment hearing (Err (stops.Window fault)) = Stopped old new hearing over_range
Heeds old new moment hearing (Err stops.NoMemory) =
    GaveUp old new moment (PartOf (site_of old) old.state hearing) (left_by_hearing (site_of old) old.state hearing)

-- what is heard in an event
abbrev pub heard_by : Shown → Event → Hearing
heard_by old e = heard (site_of old) old.state e

-- an event was answered
abbrev pub Handled : Shown → Shown → Moment → Event → Type 0
Handled old new moment e = Replied old new moment (heard_by old e)

-- An event that always has an answer was answered, or memory ran out in it.
abbrev pub Responds : Shown → Shown → Moment → Event → Result (Unit {0}) NoMemory → Type 0
Responds old new moment e (Ok u) = Handled old new moment e
Responds old new moment e (Err no_memory) = Heeds old new moment (heard_by old e) (Err stops.NoMemory)

abbrev pub Handles : Shown → Shown → Moment → Event → Result (Unit {0}) SessionStop → Type 0
Handles old new moment e result = Heeds old new moment (heard_by old e) result

-- Pumps.

-- each step in turn is a pop of one of these requests
abbrev pub ArePopsOf : List ℕ → List Step → Type 0
ArePopsOf [] [] = ⊤
ArePopsOf (req ∷ reqs) (pops r marks sent ∷ steps) = (r ≡ req) × ArePopsOf reqs steps
ArePopsOf reqs steps = ⊥

-- whether some of them sent an update

abbrev pub is_some_sent : List Sent → Bool
is_some_sent [] = false
is_some_sent (x ∷ sent) = true

abbrev pub sends : List Step → Bool
sends steps = list_any (λ x. is_some_sent (sent_in x)) steps

-- The monitors of these requests were popped once each, in this order, and their updates were added.
pub record PumpedSome (old new : Shown) (reqs : List ℕ) (steps : List Step) (more : List Mark) : Type 0 where
  pub are : ArePopsOf reqs steps
  pub rules : AreSteps (site_of old) old.state steps
  pub adds : Adds old.seat new.seat (marks_of steps ++ more)
  pub output : new.output ≡ old.output ++ out_of (site_of old) old.state steps

-- All that were due were, by the rising ids of their requests. It tells whether one had an update.
pub record Pumped (old new : Shown) (more : Bool) : Type 0 where
  pub steps : List Step
  pub some : PumpedSome old new (due old.state.requests) steps []
  pub state : new.state ≡ state_after (site_of old) old.state steps
  pub more_is : more ≡ sends steps

-- Memory ran out at one of them: those before it were popped, and so was it, but its update wasn't added. Those behind it
-- weren't popped.
pub record PumpStopped (old new : Shown) : Type 0 where
  pub reqs : List ℕ
  pub req : ℕ
  pub later : List ℕ
  pub due_are : due old.state.requests ≡ reqs ++ req ∷ later
  pub steps : List Step
  pub next : List Mark
  pub some : PumpedSome old new reqs steps next
  pub next_is : UnsentPop (state_after (site_of old) old.state steps) req next
  pub subscribed : slots_of new.state.requests ≡ slots_of old.state.requests

abbrev pub Pumps : Shown → Shown → Result Bool NoMemory → Type 0
Pumps old new (Ok more) = Pumped old new more
Pumps old new (Err e) = PumpStopped old new

-- The session has ended, and its subscriptions with it: the marks are their endings.
pub record Finished (old : Shown) (seat : Seat) : Type 0 where
  pub marks : List Mark
  pub endings : AreEndings old.state marks
  pub adds : Adds old.seat seat marks
