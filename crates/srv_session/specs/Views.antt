-- What contracts see of a session.
use Rattle.std.specs.Prelude.{◌≡◌, ◌≤◌, ℕ, Bool, true, false, List, ◌++◌, drop, Option, Some, option_map, Result, Ok, Err, codes}
use Rattle.std.specs.FinMap.{get as at}
use Rattle.std.specs.FinSet.{FinSet}
use Rattle.std.specs.Ordering.{nat_cmp}
use denote.Ref.{Bor}
use Rattle.pvd_codec.specs.declared.fault.ValueFault.{ValueFault}
use Rattle.pvd_codec.specs.declared.fault.ValueFault.TheVariants as values
use Rattle.pva_messages.specs.Requests as said
use Rattle.pva_messages.specs.Subcommands.{begins, asks_back}
use Rattle.pva_messages.specs.Requests.{Request, part_place}
use Rattle.pva_messages.specs.declared.fault.MessageFault.{MessageFault}
use Rattle.pvd_type.specs.declared.memory.NoMemory.{NoMemory}
use Rattle.pva_frames.specs.declared.event.Event.{Event}
use Rattle.pva_frames.specs.declared.event.Whole.{Whole}
use Rattle.journal_core.specs.Moments.{Moment}
use Rattle.desk_api.specs.History.{IsLegal}
use Rattle.desk_api.specs.declared.channel.Channel.{Channel}
use Rattle.desk_api.specs.declared.mark.Seat.{Seat}
use Rattle.pvd_type.specs.Tree.{Tree}
use Rattle.pvd_value.specs.Data.{Data}
use Rattle.pvd_request.specs.declared.request.Request.{Request as Wanted}
use Rattle.pvd_request.specs.declared.request.RequestFault.{RequestFault}
use Rattle.pvd_request.specs.declared.request.RequestFault.TheVariants as faults
use Rattle.chan_table.specs.declared.answer.TableAnswer.{TableAnswer}
use Rattle.chan_table.specs.declared.answer.TableAnswer.TheVariants as places
use Rattle.chan_table.specs.declared.ask.AskKind.{AskKind}
use Rattle.chan_table.specs.declared.ask.AskKind.TheVariants as kinds
use Rattle.desk_api.specs.Types.{type_of, HoldsLeaves}
use Rattle.desk_api.specs.declared.put.Done.{Done}
use Rattle.desk_api.specs.declared.put.PutAnswer.{PutAnswer}
use Rattle.srv_session.specs.State.{State, Asked, request_on, slots_of}
use Rattle.srv_session.specs.Replies.{Sent, IsSayable, spelled, refused, outcome, is_call}
use Rattle.srv_session.specs.Rows.{put_status, behind}
use Rattle.srv_session.specs.Tasks.{Task, begin, refuse, get, nothing_wanted, putting_as, fault_text, reading_part, heard_getting, Hearing}
use Rattle.srv_session.specs.Calls.{Shown, Takes, Responds, Heeds}
use Rattle.srv_session.specs.declared.requests.Found.{Found}
use Rattle.srv_session.specs.declared.session.Session.{Session}
use Rattle.srv_session.specs.declared.stop.SessionStop.{SessionStop}
use Rattle.srv_session.specs.declared.stop.SessionStop.TheVariants as stops

abbrev pub state_of : Session → State
state_of s = record {
  order = s.order;
  validated = s.validated;
  segment = s.segment;
  registry = s.registry;
  user = s.user;
  host = s.host;
  types = s.types;
  channels = s.table.channels;
  requests = s.table.asks;
}

-- what is still to be written
abbrev pub output_of : Session → List ℕ
output_of s = drop s.sent s.output.items

-- the session beside its desk's seat
abbrev pub show : Seat → Session → Shown
show seat s = record { seat = seat; state = state_of s; output = output_of s }

-- This was added to what is to be written, and has a spelling.
abbrev pub HasSaid : Session → Session → Sent → Type 0
HasSaid old new x = (output_of new ≡ output_of old ++ spelled old.order old.segment x) × IsSayable x

-- nothing of what is to be written was taken back
pub record Keeps (old new : Session) : Type 0 where
  pub more : List ℕ
  pub sent : new.sent ≡ old.sent
  pub output : new.output.items ≡ old.output.items ++ more

-- Nothing was written, and the subscriptions are as before.
pub record IsAsBefore (old new : Session) : Type 0 where
  pub output : output_of new ≡ output_of old
  pub subscribed : slots_of (state_of new).requests ≡ slots_of (state_of old).requests

-- This was added, and the request of this id ended if the subcommand asks for that; or memory ran out, and nothing has changed.
abbrev pub RepliesWith : Session → Session → ℕ → ℕ → Sent → Result (Unit {0}) NoMemory → Type 0
RepliesWith old new req sub x (Ok u) =
    (state_of new ≡ record (state_of old) { requests = behind req sub (state_of old).requests }) × HasSaid old new x
RepliesWith old new req sub x (Err e) = IsAsBefore old new

-- The request that a message is about was found, or why the message is refused.
abbrev pub IsFound : Result Found (Bor (List ℕ)) → Result (Asked × Channel) (List ℕ) → Type 0
IsFound (Ok found) (Ok looked_up) = (found.channel ≡ looked_up.1) × (found.atomic ≡ looked_up.0.atomic)
IsFound (Err text) (Err told) = text.now ≡ told
IsFound result looked_up = ⊥

-- the request of this id selects leaves of this type
pub record HasSelected (s : State) (req : ℕ) (ty : Tree) : Type 0 where
  pub ask : Asked
  pub here : at s.requests req ≡ Some ask
  pub leaves : HoldsLeaves ty ask.mask

-- gets, puts and monitors have the type once where they begin
abbrev pub HasOneType : AskKind → Type 0
HasOneType kinds.Get = Unit {0}
HasOneType kinds.Put = Unit {0}
HasOneType kinds.Monitor = Unit {0}
HasOneType kind = ⊥

-- gets and put-gets bring leaves of a value, and so do puts that ask for it
abbrev pub HasPart : AskKind → ℕ → Type 0
HasPart kinds.Get sub = Unit {0}
HasPart kinds.Put sub = asks_back sub ≡ true
HasPart kinds.PutGet sub = Unit {0}
HasPart kind sub = ⊥

-- OK alone is said to a put that doesn't ask for the value, and to the beginning of a call
abbrev pub IsOkAlone : AskKind → ℕ → Type 0
IsOkAlone kinds.Put sub = (begins sub ≡ false) × (asks_back sub ≡ false)
IsOkAlone kinds.Rpc sub = begins sub ≡ true
IsOkAlone kind sub = ⊥

-- a monitor is refused in the reply to its beginning
abbrev pub MayRefuse : AskKind → ℕ → Type 0
MayRefuse kinds.Monitor sub = begins sub ≡ true
MayRefuse kind sub = Unit {0}

-- a request is there, which began on this channel, and is no call
pub record IsThere (s : State) (sid req : ℕ) (found : Found) : Type 0 where
  pub ask : Asked
  pub here : request_on s sid req ≡ Some (ask, found.channel)
  pub atomic : found.atomic ≡ ask.atomic
  pub selects : is_call ask.kind ≡ false

-- A row's function was called with the desk at one seat and left it at another; then the sessions, the moment, the
-- task, and what it answered.
abbrev pub AnswersTask : Seat → Seat → Session → Session → Moment → Task → Result (Unit {0}) NoMemory → Type 0
AnswersTask here there old new moment task result = Takes (show here old) (show there new) moment task result

-- The same at every moment, of a row that makes no entry.
abbrev pub AnswersAnytime : Seat → Seat → Session → Session → Task → Result (Unit {0}) NoMemory → Type 0
AnswersAnytime here there old new task result = (moment : Moment) → AnswersTask here there old new moment task result

-- The same beside this desk, which isn't asked for anything that makes a mark, and beside every one.

abbrev pub AnswersBeside : Seat → Session → Session → Task → Result (Unit {0}) NoMemory → Type 0
AnswersBeside seat old new task result = IsLegal seat.seen → AnswersAnytime seat seat old new task result

abbrev pub AnswersAlone : Session → Session → Task → Result (Unit {0}) NoMemory → Type 0
AnswersAlone old new task result = (seat : Seat) → AnswersBeside seat old new task result

-- what became of what was heard
abbrev pub HeedsHearing : Seat → Seat → Session → Session → Moment → Hearing → Result (Unit {0}) SessionStop → Type 0
HeedsHearing here there old new moment hearing result = Heeds (show here old) (show there new) moment hearing result

-- Parts of rows.

-- A request begins for this, on the channel of this id whose type is this.
abbrev pub BeginsOn : Session → Session → AskKind → ℕ → ℕ → ℕ → Tree → Wanted → Result (Unit {0}) NoMemory → Type 0
BeginsOn old new kind req sub sid ty wanted result = (seat : Seat) (channel : Channel)
    → ty ≡ type_of seat.seen.base.site channel
    → AnswersBeside seat old new (begin kind req sub sid channel wanted) result

-- A call begins.
abbrev pub BeginsCall : Session → Session → AskKind → ℕ → ℕ → ℕ → Result (Unit {0}) NoMemory → Type 0
BeginsCall old new kind req sub sid result = (seat : Seat) (channel : Channel)
    → AnswersBeside seat old new (begin kind req sub sid channel nothing_wanted) result

-- A request structure is refused for its fault, or memory ran out.
abbrev pub RefusesFault : Session → Session → AskKind → ℕ → ℕ → RequestFault → Result (Unit {0}) NoMemory → Type 0
RefusesFault old new kind req sub faults.NoMemory (Ok u) = ⊥
RefusesFault old new kind req sub faults.NoMemory (Err e) = IsAsBefore old new
RefusesFault old new kind req sub fault result =
    AnswersAlone old new (refuse (refused kind req sub (fault_text fault))) result

-- There is no place for a request, for this reason.
abbrev pub RefusesPlace : Session → Session → AskKind → ℕ → ℕ → TableAnswer → Result (Unit {0}) NoMemory → Type 0
RefusesPlace old new kind req sub places.InUse result =
    AnswersAlone old new (refuse (refused kind req sub (codes "request id in use"))) result
RefusesPlace old new kind req sub (places.Full limit) result =
    AnswersAlone old new (refuse (refused kind req sub (codes "too many requests"))) result
RefusesPlace old new kind req sub places.NoMemory (Ok u) = ⊥
RefusesPlace old new kind req sub places.NoMemory (Err e) = IsAsBefore old new

-- What the request that was found gets.
abbrev pub GetsFrom : Seat → Seat → Session → Session → AskKind → ℕ → ℕ → ℕ → Found
    → Result (Unit {0}) NoMemory → Type 0
GetsFrom here there old new kind sid req sub found result =
    (ask : Asked) → request_on (state_of old) sid req ≡ Some (ask, found.channel) → found.atomic ≡ ask.atomic
    → AnswersAnytime here there old new (get kind req sub ask found.channel) result

-- What it puts, and then gets if it gets too.
abbrev pub PutsTo : Bool → Seat → Seat → Session → Session → Moment → ℕ → ℕ → ℕ → Found → FinSet nat_cmp → Data
    → Result (Unit {0}) NoMemory → Type 0
PutsTo gets here there old new moment sid req sub found mask value result =
    (ask : Asked) → request_on (state_of old) sid req ≡ Some (ask, found.channel) → found.atomic ≡ ask.atomic
    → AnswersTask here there old new moment (putting_as gets req sub ask found.channel mask value) result

-- A put or a put-get that was read is so long that its part has a place.
abbrev pub HasPlace : Request → ℕ → Type 0
HasPlace (said.put sid req sub v part) end = part_place ≤ end
HasPlace (said.put_get sid req sub v part) end = part_place ≤ end
HasPlace request end = Unit {0}

-- What is heard in the part of its put, and what becomes of that.
abbrev pub PutsPart : Bool → Seat → Seat → Session → Session → Moment → Whole → ℕ → ℕ → ℕ → Found
    → Result (Unit {0}) SessionStop → Type 0
PutsPart gets here there old new moment whole sid req sub found result =
    (ask : Asked) → request_on (state_of old) sid req ≡ Some (ask, found.channel) → found.atomic ≡ ask.atomic
    → HeedsHearing here there old new moment
    (reading_part gets here.seen.base.site whole (state_of old).types req sub (ask, found.channel)) result

-- The same of a put-get, whose bits 40 and 80 are refused.
abbrev pub PutGetsPart : Seat → Seat → Session → Session → Moment → Whole → ℕ → ℕ → ℕ → Found
    → Result (Unit {0}) SessionStop → Type 0
PutGetsPart here there old new moment whole sid req sub found result =
    (ask : Asked) → request_on (state_of old) sid req ≡ Some (ask, found.channel) → found.atomic ≡ ask.atomic
    → HeedsHearing here there old new moment
    (heard_getting here.seen.base.site whole (state_of old).types req sub (Ok (ask, found.channel))) result

-- What is said to a client whose put had this answer, where memory didn't run out.
abbrev pub IsProblem : Result Done PutAnswer → Result (Option (Bor (List ℕ))) NoMemory → Type 0
IsProblem answer (Ok problem) = put_status answer ≡ Some (outcome (option_map (λ t. t.now) problem))
IsProblem answer (Err e) = Unit {0}

-- a control message was handled, beside every desk's seat and at every moment
abbrev pub HandlesControl : Session → Session → Event → Result (Unit {0}) NoMemory → Type 0
HandlesControl old new e result = (seat : Seat) → IsLegal seat.seen → (moment : Moment)
    → Responds (show seat old) (show seat new) moment e result

-- the answer of a caller that may stop for other reasons too
abbrev pub stopping : Result (Unit {0}) NoMemory → Result (Unit {0}) SessionStop
stopping (Ok u) = Ok u
stopping (Err e) = Err stops.NoMemory

-- a message that wasn't read: for want of memory, or for its fault
abbrev pub stop_with : MessageFault → ValueFault → SessionStop
stop_with fault values.NoMemory = stops.NoMemory
stop_with fault other = stops.Message fault

abbrev pub stop_by : MessageFault → SessionStop
stop_by fault = stop_with fault fault.cause
