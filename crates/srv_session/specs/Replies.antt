-- What a session sends, and how it is spelled (pvAccess Protocol Specification, "Application Messages").
use Rattle.std.specs.Prelude.{◌≡◌, ◌<◌, ◌^◌, ℕ, Bool, true, false, List, [], ◌∷◌, ◌++◌, Option, None, Some, codes}
use Rattle.std.specs.FinSet.{FinSet}
use Rattle.std.specs.Ordering.{nat_cmp}
use Rattle.pva_wire.specs.declared.order.Order.{Order}
use Rattle.pva_wire.specs.declared.status.Status.{Status}
use Rattle.pva_wire.specs.declared.status.StatusKind.TheVariants.{Error}
use Rattle.pva_wire.specs.Status.{good}
use Rattle.pvd_type.specs.Tree.{Tree}
use Rattle.pvd_value.specs.Data.{Data}
use Rattle.pvd_value.specs.View.{view}
use Rattle.mon_queue.specs.Told.{are_leaves}
use Rattle.mon_queue.specs.declared.update.Update.{Update}
use Rattle.pvd_codec.specs.Written.{CanEach}
use Rattle.pva_frames.specs.Spelling.{message_bytes, control_bytes}
use Rattle.pva_messages.specs.declared.command.Command.{Command}
use Rattle.pva_messages.specs.declared.command.Command.TheVariants as commands
use Rattle.pva_messages.specs.Fields.{PartData}
use Rattle.pva_messages.specs.Laws.{IsReplyWritable}
use Rattle.pva_messages.specs.Replies as reply
use Rattle.pva_messages.specs.Replies.{Reply, CanReply, reply_command, reply_fields, update_reply}
use Rattle.pva_messages.specs.Written.{FitsField, canonical}
use Rattle.chan_table.specs.declared.ask.AskKind.{AskKind}
use Rattle.chan_table.specs.declared.ask.AskKind.TheVariants as kinds
use Rattle.srv_session.specs.State.{segment_for}

-- What is sent: a reply, or a control message.
pub data Sent : Type 0 where
  said : Reply → Sent
  control : ℕ → ℕ → Sent

-- Its bytes, in this order; a reply goes in segments of so many bytes.
abbrev pub spelled : Order → ℕ → Sent → List ℕ
spelled order segment (said r) = message_bytes order true (reply_command r) (canonical order (reply_fields r)) segment
spelled order segment (control command number) = control_bytes order true command number

abbrev pub spelled_all : Order → ℕ → List Sent → List ℕ
spelled_all order segment [] = []
spelled_all order segment (x ∷ xs) = spelled order segment x ++ spelled_all order segment xs

-- what an update tells of what had changed more than once is a set of leaves
abbrev pub HasLeafBits : Reply → Type 0
HasLeafBits (reply.monitor_update req sub (Some u)) = are_leaves u.0.ty u.1 ≡ true
HasLeafBits r = Unit {0}

-- what may be said: a message has what its row has, values that fit, and leaves where it tells of leaves
abbrev pub CanSay : Reply → Type 0
CanSay r = CanReply r × CanEach FitsField (reply_fields r) × HasLeafBits r

-- It has a spelling: a reply says what its row has, and all that it says can be spelled; the number of a control message
-- has 32 bits.
abbrev pub IsSayable : Sent → Type 0
IsSayable (said r) = IsReplyWritable r × HasLeafBits r
IsSayable (control command number) = number < 2 ^ 32

-- the methods of authentication that a client may choose from
abbrev pub methods : List (List ℕ)
methods = codes "anonymous" ∷ codes "ca" ∷ []

-- The greeting: the byte order to use, and a validation with the server's sizes and methods.
abbrev pub greetings : List Sent
greetings = control 2 0 ∷ said (reply.validation 65536 32767 methods) ∷ []

abbrev pub greeting : Order → List ℕ
greeting order = spelled_all order (segment_for 65536) greetings

-- the status ERROR with a text and no call tree
abbrev pub error : List ℕ → Status
error text = record { kind = Error; message = text; tree = [] }

-- OK where there is no problem, and else ERROR with its text
abbrev pub outcome : Option (List ℕ) → Status
outcome None = good
outcome (Some text) = error text

-- A reply to a message about a request: its kind, the id of the request and the subcommand are those of the message;
-- the status; the type, where the request has begun; the part of a value. A put-get has its type twice, as what is put and
-- as what is got; a call has neither a type nor a part; a monitor has no part here.

abbrev pub reply_to : AskKind → ℕ → ℕ → Status → Option Tree → Option PartData → Reply
reply_to kinds.Get req sub status ty part = reply.get req sub status ty part
reply_to kinds.Put req sub status ty part = reply.put req sub status ty part
reply_to kinds.PutGet req sub status ty part = reply.put_get req sub status ty ty part
reply_to kinds.Rpc req sub status ty part = reply.rpc req sub status None
reply_to kinds.Monitor req sub status ty part = reply.monitor_begun req sub status ty

-- whether requests of a kind are calls of the service, which select no leaves
abbrev pub is_call : AskKind → Bool
is_call kinds.Get = false
is_call kinds.Put = false
is_call kinds.PutGet = false
is_call kinds.Rpc = true
is_call kinds.Monitor = false

-- a status, and nothing beside
abbrev pub answered : AskKind → ℕ → ℕ → Status → Reply
answered kind req sub status = reply_to kind req sub status None None

-- ERROR with this text
abbrev pub refused : AskKind → ℕ → ℕ → List ℕ → Reply
refused kind req sub text = answered kind req sub (error text)

-- OK, and the type of the channel, as its kind has it
abbrev pub begun : AskKind → ℕ → ℕ → Tree → Reply
begun kind req sub ty = reply_to kind req sub good (Some ty) None

-- OK, and these leaves of a value of this type
abbrev pub got : AskKind → ℕ → ℕ → Tree → FinSet nat_cmp → Data → Reply
got kind req sub ty mask value = reply_to kind req sub good None (Some (record { ty = ty; mask = mask; value = value }))

-- the answer to a call: OK, and a value of this type
abbrev pub called : ℕ → ℕ → Tree → Data → Reply
called req sub ty value = reply.rpc req sub good (Some (ty, value))

-- the answer to a question for the type of a field: OK and the type, or ERROR with a text

abbrev pub field_told : ℕ → Tree → Reply
field_told req ty = reply.get_field req good (Some ty)

abbrev pub field_refused : ℕ → List ℕ → Reply
field_refused req text = reply.get_field req (error text) None

-- the command of the messages about requests of a kind
abbrev pub command_of_kind : AskKind → Command
command_of_kind kinds.Get = commands.Get
command_of_kind kinds.Put = commands.Put
command_of_kind kinds.PutGet = commands.PutGet
command_of_kind kinds.Rpc = commands.Rpc
command_of_kind kinds.Monitor = commands.Monitor

-- an update of a monitor: its changed leaves, and which of them had changed more than once
abbrev pub updated : ℕ → Tree → Update → Reply
updated req ty update =
    update_reply req (record { ty = ty; mask = update.changed; value = view update.value }) update.overrun
