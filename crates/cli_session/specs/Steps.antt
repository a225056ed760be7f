-- What a client does at an event, and over a list of events.
use Rattle.std.specs.Prelude.{ℕ, ◌-◌, ◌==◌, ◌||◌, nat_lt, Bool, true, false, List, [], ◌∷◌, ◌++◌, length, map}
use Rattle.std.specs.Prelude.{Option, None, Some, Result, Ok, Err, if◌then◌else◌}
use Rattle.std.specs.Ordering.{nat_cmp}
use Rattle.std.specs.FinSet.{FinSet, empty}
use Rattle.pva_wire.specs.declared.status.Status.{Status}
use Rattle.pva_frames.specs.declared.event.Whole.{Whole}
use Rattle.pva_frames.specs.declared.event.Event.{Event}
use Rattle.pva_frames.specs.declared.event.Event.TheVariants.{Message, Control}
use Rattle.pvd_type.specs.Numbers.{leaves}
use Rattle.pvd_type.specs.Tree.{Tree}
use Rattle.pvd_value.specs.Data.{Data}
use Rattle.pvd_value.specs.Leaves.{marked_leaves}
use Rattle.pvd_codec.specs.Faults.{fault_at}
use Rattle.pvd_codec.specs.Reading.{Read, State as Source}
use Rattle.pvd_codec.specs.declared.fault.ValueCause.{ValueCause}
use Rattle.pva_messages.specs.Fields.{Valued, PartData}
use Rattle.pva_messages.specs.Reading.{reply_at, request_id}
use Rattle.pva_messages.specs.Replies.{Reply}
use Rattle.pva_messages.specs.Requests.{Request}
use Rattle.pva_messages.specs.Rows.{byte_of}
use Rattle.pva_messages.specs.declared.command.Command.TheVariants as command
use Rattle.pva_messages.specs.declared.fault.MessageFault.{MessageFault}
use Rattle.cli_text.specs.Put.{put_of}
use Rattle.cli_text.specs.declared.fault.PutText.{PutText}
use Rattle.cli_text.specs.declared.fault.PutText.TheVariants as puts
use Rattle.cli_session.specs.declared.ask.Ask.{Ask}
use Rattle.cli_session.specs.declared.ask.Operation.{Operation}
use Rattle.cli_session.specs.declared.ask.Operation.TheVariants as operation
use Rattle.cli_session.specs.declared.fault.ClientFault.{ClientFault}
use Rattle.cli_session.specs.declared.fault.ClientFault.TheVariants.{UnknownReply, Words}
use Rattle.cli_session.specs.declared.fault.ClientFault.TheVariants as fails
use Rattle.cli_session.specs.declared.turn.Turn.{Turn}
use Rattle.cli_session.specs.State.{State, opening, segment_for}
use Rattle.cli_session.specs.Messages.{Sent, said, control, Written, written, written_bytes, messages, asked}
use Rattle.cli_session.specs.Messages.{last_messages, window_of, acknowledgement}
use Rattle.cli_session.specs.Answers.{Answer, greeted, accepted, created, begun, present, value, described, outcome}
use Rattle.cli_session.specs.Answers.{done, update, refused, answer_of, unless_own, foreign_id}

-- What a client tells: a part of a value, with the leaves that changed more than once; a type; that the server refused;
-- that the operation has ended.
pub data Told : Type 0 where
  part : PartData → FinSet nat_cmp → Told
  of_type : Tree → Told
  refusal : Status → Told
  finish : Told

-- What an event brings about: the state behind it, what is sent, and what is told.
pub record Taken : Type 0 where
  pub state : State
  pub sent : List Sent
  pub told : List Told

-- nothing is sent or told
abbrev pub quietly : State → Taken
quietly s = record { state = s; sent = []; told = [] }

abbrev pub saying : State → List Request → List Told → Taken
saying s ms told = record { state = s; sent = map said ms; told = told }

-- an echo is 4, with the same number
abbrev pub echoing : State → ℕ → Taken
echoing s number = record { state = s; sent = control 4 number ∷ []; told = [] }

-- The message of a turn is sent.
abbrev pub asking : Ask → State → Turn → Taken
asking ask s turn = saying (asked ask s turn) (messages ask s turn) []

-- the same of the next of these turns
abbrev pub next : Ask → State → List Turn → Taken
next ask s [] = quietly (record s { turns = [] })
next ask s (turn ∷ later) = asking ask (record s { turns = turn ∷ later }) turn

-- The operation ends: this is told, and the request is ended.
abbrev pub ended : State → Turn → List Told → Taken
ended s turn told = saying (record s { turns = [] }) (last_messages s turn) told

-- the last reply
abbrev pub finished : State → Turn → List Told → Taken
finished s turn told = ended s turn (told ++ finish ∷ [])

-- What a value, a type or a result tells: nothing, where its description was null.

abbrev pub value_told : Option PartData → List Told
value_told None = []
value_told (Some p) = part p empty ∷ []

abbrev pub type_told : Option Tree → List Told
type_told None = []
type_told (Some t) = of_type t ∷ []

-- the result of a call has all its leaves
abbrev pub outcome_told : Valued → List Told
outcome_told None = []
outcome_told (Some v) = part (record { ty = v.0; mask = leaves v.0; value = v.1 }) empty ∷ []

-- in the set of what changed more than once a structure's bit stands for its leaves
abbrev pub update_told : Option (PartData × FinSet nat_cmp) → List Told
update_told None = []
update_told (Some u) = part u.0 (marked_leaves u.0.ty u.1) ∷ []

-- An update is acknowledged in a window, but for the last that is awaited.
abbrev pub updated : Ask → State → Turn → List Told → Taken
updated ask s turn told =
    if nat_lt 1 s.left
    then saying (record s { left = s.left - 1 }) (acknowledgement s.sid (window_of ask.operation)) told
    else finished s turn told

-- What the words of a put give over a present value: the part that is put, or the first fault. Without a value the
-- first word names no field.

abbrev pub words_of : Operation → List (List ℕ)
words_of (operation.Put words) = words.items
words_of (operation.PutGet words) = words.items
words_of op = []

abbrev pub part_put : Tree → Result (FinSet nat_cmp × Data) PutText → Result PartData PutText
part_put t (Ok p) = Ok (record { ty = t; mask = p.0; value = p.1 })
part_put t (Err f) = Err f

abbrev pub read_words : List (List ℕ) → Option PartData → Result PartData PutText
read_words words None = Err (puts.NoField 0)
read_words [] (Some p) = Err (puts.NoField 0)
read_words (word ∷ words) (Some p) = part_put p.ty (put_of p.ty p.value (word ∷ words))

abbrev pub put_next : Ask → State → List Turn → Result PartData PutText → Result Taken ClientFault
put_next ask s later (Ok p) = Ok (next ask (record s { put = Some p }) later)
put_next ask s later (Err f) = Err (Words f)

-- What follows an answer to a turn, behind which these are awaited.
abbrev pub after_answer : Ask → State → Turn → List Turn → Answer → Result Taken ClientFault
after_answer ask s turn later (greeted buffer) = Ok (next ask (record s { segment = segment_for buffer }) later)
after_answer ask s turn later accepted = Ok (next ask s later)
after_answer ask s turn later (created sid) = Ok (next ask (record s { sid = sid }) later)
after_answer ask s turn later (begun ty) = Ok (next ask (record s { ty = ty }) later)
after_answer ask s turn later (present p) = put_next ask s later (read_words (words_of ask.operation) p)
after_answer ask s turn later (value p) = Ok (finished s turn (value_told p))
after_answer ask s turn later (described ty) = Ok (finished s turn (type_told ty))
after_answer ask s turn later (outcome v) = Ok (finished s turn (outcome_told v))
after_answer ask s turn later done = Ok (finished s turn [])
after_answer ask s turn later (update u) = Ok (updated ask s turn (update_told u))
after_answer ask s turn later (refused status) = Ok (ended s turn (refusal status ∷ []))

abbrev pub answered : Ask → State → Turn → List Turn → Result Answer ClientFault → Result Taken ClientFault
answered ask s turn later (Ok answer) = after_answer ask s turn later answer
answered ask s turn later (Err f) = Err f

-- A reply that was read. One that names another's id is unknown, whatever else it is.
abbrev pub replied : Ask → State → Turn → List Turn → Reply → Option ℕ → Result Taken ClientFault
replied ask s turn later reply (Some id) = Err (UnknownReply id)
replied ask s turn later reply None = answered ask s turn later (answer_of turn reply)

-- the fault of a message
abbrev pub fault_in : Whole → ValueCause × ℕ → MessageFault
fault_in whole (cause, left) = record { command = whole.command; cause = fault_at cause (length whole.payload - left) }

abbrev pub heard_reply : Ask → State → Turn → List Turn → Reply → Result Taken ClientFault
heard_reply ask s turn later reply = replied ask s turn later reply (foreign_id s reply)

abbrev pub heard : Ask → State → Turn → List Turn → Whole → Read Source Reply → Result Taken ClientFault
heard ask s turn later whole (Ok (reply, (rest, types))) = heard_reply ask (record s { types = types }) turn later reply
heard ask s turn later whole (Err f) = Err (fails.Message (fault_in whole f))

-- The commands of the replies that a client awaits; all others are passed over unread.
abbrev pub is_reply : ℕ → Bool
is_reply c =
    (c == byte_of command.Validation) || (c == byte_of command.CreateChannel) || (c == byte_of command.Validated)
    || (c == byte_of command.Get) || (c == byte_of command.Put) || (c == byte_of command.PutGet)
    || (c == byte_of command.Monitor) || (c == byte_of command.GetField) || (c == byte_of command.Rpc)

-- the type of the request that a reply names, where it is the client's
abbrev pub type_unless : Option Tree → Option ℕ → Option Tree
type_unless ty None = ty
type_unless ty (Some id) = None

abbrev pub type_for : Option ℕ → Option Tree → Option ℕ → Option Tree
type_for own ty None = None
type_for own ty (Some id) = type_unless ty (unless_own own id)

-- Where the server has told to use another byte order, that of its next message is used from then on.
abbrev pub in_order : State → Whole → State
in_order s whole = record s { order = if s.order_told then whole.order else s.order; order_told = false }

abbrev pub heard_whole : Ask → State → Turn → List Turn → Whole → Result Taken ClientFault
heard_whole ask s turn later whole =
    if is_reply whole.command
    then heard ask s turn later whole
    (reply_at whole.order (type_for s.req s.ty (request_id whole.order whole.command whole.payload)) whole.command
    (whole.payload, s.types))
    else Ok (quietly s)

-- Control messages: 2 tells the byte order, 3 asks for an echo (pvAccess Protocol Specification, "Control Messages").
abbrev pub heard_control : State → ℕ → ℕ → Taken
heard_control s c number =
    if c == 2 then quietly (record s { order_told = true })
    else if c == 3 then echoing s number
    else quietly s

-- What an event brings about. Once the operation has ended, every event is passed over.
abbrev pub step_at : Ask → State → List Turn → Event → Result Taken ClientFault
step_at ask s [] e = Ok (quietly s)
step_at ask s (turn ∷ later) (Control c number) = Ok (heard_control s c number)
step_at ask s (turn ∷ later) (Message whole) = heard_whole ask (in_order s whole) turn later whole

abbrev pub step : Ask → State → Event → Result Taken ClientFault
step ask s e = step_at ask s s.turns e

-- Over a list of events.

-- The state behind them, all that is told and sent up to there, and the fault of the first event that isn't taken.
pub record Run : Type 0 where
  pub state : State
  pub told : List Told
  pub sent : List Written
  pub fault : Option ClientFault

-- what is sent at an event, in the order and the segments of the state behind it, and its bytes
abbrev pub written_of : Taken → List Written
written_of t = map (written t.state.order t.state.segment) t.sent

abbrev pub bytes_of : Taken → List ℕ
bytes_of t = written_bytes (written_of t)

-- what an event brings about, and what those behind it do
abbrev pub and_then : Taken → Run → Run
and_then t r = record r { told = t.told ++ r.told; sent = written_of t ++ r.sent }

abbrev pub going_on : State → Result Taken ClientFault → (State → Run) → Run
going_on s (Ok t) more = and_then t (more t.state)
going_on s (Err f) more = record { state = s; told = []; sent = []; fault = Some f }

abbrev pub run : Ask → State → List Event → Run
run ask s [] = record { state = s; told = []; sent = []; fault = None }
run ask s (e ∷ events) = going_on s (step ask s e) (λ t. run ask t events)

-- of a client that hears these events from its beginning on
abbrev pub client_run : Ask → List Event → Run
client_run ask events = run ask (opening ask) events

abbrev pub client_told : Ask → List Event → List Told
client_told ask events = (client_run ask events).told

abbrev pub client_sent : Ask → List Event → List Written
client_sent ask events = (client_run ask events).sent

abbrev pub client_bytes : Ask → List Event → List ℕ
client_bytes ask events = written_bytes (client_sent ask events)

abbrev pub client_fault : Ask → List Event → Option ClientFault
client_fault ask events = (client_run ask events).fault
