-- What a client says at each turn (pvAccess Protocol Specification, "Application Messages").
use Rattle.std.specs.Prelude.{ℕ, false, List, [], ◌∷◌, ◌++◌, Option, None, Some, codes}
use Rattle.pva_wire.specs.declared.order.Order.{Order}
use Rattle.pva_frames.specs.Spelling.{message_bytes, control_bytes}
use Rattle.pvd_type.specs.Tree.{Tree, no_fields}
use Rattle.pva_messages.specs.Fields.{Valued, PartData}
use Rattle.pva_messages.specs.Laws.{request_payload}
use Rattle.pva_messages.specs.Requests as requests
use Rattle.pva_messages.specs.Requests.{Request, absent, given, request_command}
use Rattle.cli_session.specs.declared.ask.Ask.{Ask}
use Rattle.cli_session.specs.declared.ask.Operation.{Operation}
use Rattle.cli_session.specs.declared.ask.Operation.TheVariants as operation
use Rattle.cli_session.specs.declared.turn.Turn.{Turn}
use Rattle.cli_session.specs.declared.turn.Turn.TheVariants as turn
use Rattle.cli_session.specs.State.{State}
use Rattle.cli_session.specs.Structures.{request, selected, atomic_options, monitor_options, user_of, uri}

-- what is sent: a message, or a control message
pub data Sent : Type 0 where
  said : Request → Sent
  control : ℕ → ℕ → Sent

-- its bytes, in this order; a message goes in segments of so many bytes
abbrev pub spelled : Order → ℕ → Sent → List ℕ
spelled order segment (said m) = message_bytes order false (request_command m) (request_payload order m) segment
spelled order segment (control command number) = control_bytes order false command number

-- what was sent, with the order and the size of segments in which it was
pub record Written : Type 0 where
  pub order : Order
  pub segment : ℕ
  pub sent : Sent

abbrev pub written : Order → ℕ → Sent → Written
written order segment sent = record { order = order; segment = segment; sent = sent }

abbrev pub written_bytes : List Written → List ℕ
written_bytes [] = []
written_bytes (w ∷ ws) = spelled w.order w.segment w.sent ++ written_bytes ws

-- "Connection validation": the method `ca` with a user and a host, else `anonymous`
abbrev pub validation : Option (List ℕ × List ℕ) → Request
validation None = requests.validation 65536 32767 0 (codes "anonymous") None
validation (Some user) = requests.validation 65536 32767 0 (codes "ca") (Some (user_of user))

-- A put-get takes the present value by a put of id 2, which it ends before the put-get itself.
abbrev pub put_id : Operation → ℕ
put_id (operation.PutGet words) = 2
put_id op = 1

-- a get and a put-get ask for fields; what is put names none
abbrev pub get_request : Ask → Valued
get_request ask = Some (request (codes "field") (selected ask.fields.items) (atomic_options ask.atomic))

abbrev pub put_request : Ask → Valued
put_request ask = Some (request (codes "field") no_fields (atomic_options ask.atomic))

abbrev pub put_get_request : Ask → Valued
put_get_request ask = Some (request (codes "getField") (selected ask.fields.items) (atomic_options ask.atomic))

abbrev pub call_request : Valued
call_request = Some (request (codes "field") no_fields [])

-- a monitor with a window begins with 80 and the first count
abbrev pub monitor_sub : Option ℕ → ℕ
monitor_sub None = 0x08
monitor_sub (Some free) = 0x88

abbrev pub monitor_beginning : List (List ℕ) → ℕ → Operation → List Request
monitor_beginning fields sid (operation.Monitor queue window count) =
    requests.monitor sid 1 (monitor_sub window)
    (Some (request (codes "field") (selected fields) (monitor_options queue window))) window ∷ []
monitor_beginning fields sid op = []

abbrev pub call_message : List ℕ → ℕ → Operation → List Request
call_message name sid (operation.Call op) = requests.rpc sid 1 0x00 (Some (uri name op)) ∷ []
call_message name sid op = []

-- a put and a put-get send what was read from their words
abbrev pub put_message : ℕ → Option PartData → List Request
put_message sid None = []
put_message sid (Some part) = requests.put sid 1 0 None (given part) ∷ []

abbrev pub put_get_message : ℕ → Option PartData → List Request
put_get_message sid None = []
put_get_message sid (Some part) = requests.put_get sid 1 0 None (given part) ∷ []

-- What is sent before the reply of a turn is awaited.
abbrev pub messages : Ask → State → Turn → List Request
messages ask s turn.Greeting = []
messages ask s turn.Validation = validation ask.user ∷ []
messages ask s turn.Creation = requests.create ((1, ask.name) ∷ []) ∷ []
messages ask s turn.BeginGet = requests.get s.sid 1 0x08 (get_request ask) ∷ []
messages ask s turn.Get = requests.get s.sid 1 0x00 None ∷ []
messages ask s turn.BeginPut = requests.put s.sid (put_id ask.operation) 0x08 (put_request ask) absent ∷ []
messages ask s turn.ReadBack = requests.put s.sid (put_id ask.operation) 0x40 None absent ∷ []
messages ask s turn.Put = put_message s.sid s.put
messages ask s turn.BeginPutGet =
    requests.destroy_request s.sid 2 ∷ requests.put_get s.sid 1 0x08 (put_get_request ask) absent ∷ []
messages ask s turn.PutGet = put_get_message s.sid s.put
messages ask s turn.BeginMonitor = monitor_beginning ask.fields.items s.sid ask.operation
messages ask s turn.Updates = requests.monitor s.sid 1 0x44 None None ∷ []
messages ask s turn.Field = requests.get_field s.sid 1 [] ∷ []
messages ask s turn.BeginCall = requests.rpc s.sid 1 0x08 call_request ∷ []
messages ask s turn.Call = call_message ask.name s.sid ask.operation

-- The id under which the message of a turn begins a request, or asks for a field.
abbrev pub begun_id : Ask → Turn → Option ℕ → Option ℕ
begun_id ask turn.BeginGet req = Some 1
begun_id ask turn.BeginPut req = Some (put_id ask.operation)
begun_id ask turn.BeginPutGet req = Some 1
begun_id ask turn.BeginMonitor req = Some 1
begun_id ask turn.Field req = Some 1
begun_id ask turn.BeginCall req = Some 1
begun_id ask other req = req

-- the channel has the client's id 1
abbrev pub named_id : Turn → Option ℕ → Option ℕ
named_id turn.Creation cid = Some 1
named_id other cid = cid

-- the request of the put-get has no type yet, whatever the put's is
abbrev pub type_kept : Turn → Option Tree → Option Tree
type_kept turn.BeginPutGet ty = None
type_kept other ty = ty

-- what was put is put once
abbrev pub put_kept : Turn → Option PartData → Option PartData
put_kept turn.Put part = None
put_kept turn.PutGet part = None
put_kept other part = part

-- The state in which the reply of a turn is awaited.
abbrev pub asked : Ask → State → Turn → State
asked ask s turn = record s {
  cid = named_id turn s.cid;
  req = begun_id ask turn s.req;
  ty = type_kept turn s.ty;
  put = put_kept turn s.put;
}

-- At its end the client ends the request that was begun last; a question for a field is none.
abbrev pub end_of : ℕ → Option ℕ → List Request
end_of sid None = []
end_of sid (Some req) = requests.destroy_request sid req ∷ []

abbrev pub last_messages : State → Turn → List Request
last_messages s turn.Field = []
last_messages s other = end_of s.sid s.req

-- an update is acknowledged where the monitor has a window
abbrev pub window_of : Operation → Option ℕ
window_of (operation.Monitor queue window count) = window
window_of op = None

abbrev pub acknowledgement : ℕ → Option ℕ → List Request
acknowledgement sid None = []
acknowledgement sid (Some free) = requests.monitor sid 1 0x80 None (Some 1) ∷ []
