-- What a reply is to the turn that awaits one: its row of the standard, or a fault (pvAccess Protocol Specification,
-- "Application Messages").
use Rattle.std.specs.Prelude.{ℕ, ◌==◌, Option, None, Some, Result, Ok, Err, if◌then◌else◌}
use Rattle.std.specs.Ordering.{nat_cmp}
use Rattle.std.specs.FinSet.{FinSet}
use Rattle.pva_wire.specs.declared.status.Status.{Status}
use Rattle.pvd_type.specs.Tree.{Tree}
use Rattle.pva_messages.specs.Fields.{Valued, PartData}
use Rattle.pva_messages.specs.Replies as replies
use Rattle.pva_messages.specs.Replies.{Reply, reply_command}
use Rattle.pva_messages.specs.Rows.{byte_of}
use Rattle.pva_messages.specs.Subcommands.{begins, carries}
use Rattle.pva_messages.specs.declared.command.Command.TheVariants as command
use Rattle.cli_session.specs.declared.fault.ClientFault.{ClientFault}
use Rattle.cli_session.specs.declared.fault.ClientFault.TheVariants.{WrongCommand, WrongPhase}
use Rattle.cli_session.specs.declared.turn.Turn.{Turn}
use Rattle.cli_session.specs.declared.turn.Turn.TheVariants as turn
use Rattle.cli_session.specs.State.{State}
use Rattle.cli_session.specs.Turns.{awaited}

pub data Answer : Type 0 where
  -- the server's greeting, with the size of its buffer
  greeted : ℕ → Answer
  -- OK, and nothing more
  accepted : Answer
  -- the channel, with the server's id
  created : ℕ → Answer
  -- a request, with the type of its channel
  begun : Option Tree → Answer
  -- the present value of what is put
  present : Option PartData → Answer
  -- the last replies of a get and a put-get, of a question for a type, of a call, and of what brings nothing
  value : Option PartData → Answer
  described : Option Tree → Answer
  outcome : Valued → Answer
  done : Answer
  -- an update of a monitor: what changed, and what did so more than once
  update : Option (PartData × FinSet nat_cmp) → Answer
  -- the status ERROR or FATAL
  refused : Status → Answer

-- an answer, where its status is OK or WARNING
abbrev pub unless_refused : Status → Answer → Result Answer ClientFault
unless_refused status answer = Ok (if carries status then answer else refused status)

-- the reply to a beginning has bit 08, whatever its other bits are
abbrev pub at_beginning : ℕ → ℕ → Status → Answer → Result Answer ClientFault
at_beginning command sub status answer =
    if begins sub then unless_refused status answer else Err (WrongPhase command)

-- another reply has the subcommand that was sent, or that a monitor's end has
abbrev pub at_sub : ℕ → ℕ → ℕ → Status → Answer → Result Answer ClientFault
at_sub command wanted sub status answer =
    if sub == wanted then unless_refused status answer else Err (WrongPhase command)

-- a reply to another message than the one that awaits it
abbrev pub wrong : Turn → ℕ → Result Answer ClientFault
wrong t command = Err (WrongCommand (awaited t) command)

abbrev pub validation_answer : Turn → ℕ → Result Answer ClientFault
validation_answer turn.Greeting buffer = Ok (greeted buffer)
validation_answer other buffer = wrong other (byte_of command.Validation)

-- a reply without a subcommand, whose command one turn alone awaits
abbrev pub at_command : Turn → ℕ → Status → Answer → Result Answer ClientFault
at_command t command status answer = if awaited t == command then unless_refused status answer else wrong t command

abbrev pub get_answer : Turn → ℕ → Status → Option Tree → Option PartData → Result Answer ClientFault
get_answer turn.BeginGet sub status ty part = at_beginning (byte_of command.Get) sub status (begun ty)
get_answer turn.Get sub status ty part = at_sub (byte_of command.Get) 0x00 sub status (value part)
get_answer other sub status ty part = wrong other (byte_of command.Get)

abbrev pub put_answer : Turn → ℕ → Status → Option Tree → Option PartData → Result Answer ClientFault
put_answer turn.BeginPut sub status ty part = at_beginning (byte_of command.Put) sub status (begun ty)
put_answer turn.ReadBack sub status ty part = at_sub (byte_of command.Put) 0x40 sub status (present part)
put_answer turn.Put sub status ty part = at_sub (byte_of command.Put) 0x00 sub status done
put_answer other sub status ty part = wrong other (byte_of command.Put)

-- of the two types of a put-get the one that is got is that of its value
abbrev pub put_get_answer : Turn → ℕ → Status → Option Tree → Option PartData → Result Answer ClientFault
put_get_answer turn.BeginPutGet sub status got part = at_beginning (byte_of command.PutGet) sub status (begun got)
put_get_answer turn.PutGet sub status got part = at_sub (byte_of command.PutGet) 0x00 sub status (value part)
put_get_answer other sub status got part = wrong other (byte_of command.PutGet)

abbrev pub monitor_begun_answer : Turn → ℕ → Status → Option Tree → Result Answer ClientFault
monitor_begun_answer turn.BeginMonitor sub status ty = at_beginning (byte_of command.Monitor) sub status (begun ty)
monitor_begun_answer turn.Updates sub status ty = Err (WrongPhase (byte_of command.Monitor))
monitor_begun_answer other sub status ty = wrong other (byte_of command.Monitor)

abbrev pub monitor_update_answer : Turn → ℕ → Option (PartData × FinSet nat_cmp) → Result Answer ClientFault
monitor_update_answer turn.BeginMonitor sub u = Err (WrongPhase (byte_of command.Monitor))
monitor_update_answer turn.Updates sub u =
    if sub == 0x00 then Ok (update u) else Err (WrongPhase (byte_of command.Monitor))
monitor_update_answer other sub u = wrong other (byte_of command.Monitor)

abbrev pub monitor_end_answer : Turn → ℕ → Status → Result Answer ClientFault
monitor_end_answer turn.BeginMonitor sub status = Err (WrongPhase (byte_of command.Monitor))
monitor_end_answer turn.Updates sub status = at_sub (byte_of command.Monitor) 0x10 sub status done
monitor_end_answer other sub status = wrong other (byte_of command.Monitor)

abbrev pub call_answer : Turn → ℕ → Status → Valued → Result Answer ClientFault
call_answer turn.BeginCall sub status v = at_beginning (byte_of command.Rpc) sub status accepted
call_answer turn.Call sub status v = at_sub (byte_of command.Rpc) 0x00 sub status (outcome v)
call_answer other sub status v = wrong other (byte_of command.Rpc)

-- What a reply is to this turn. The last line is for messages that are passed over before.
abbrev pub answer_of : Turn → Reply → Result Answer ClientFault
answer_of t (replies.validation buffer registry methods) = validation_answer t buffer
answer_of t (replies.validated status) = at_command t (byte_of command.Validated) status accepted
answer_of t (replies.created cid sid status) = at_command t (byte_of command.CreateChannel) status (created sid)
answer_of t (replies.get req sub status ty part) = get_answer t sub status ty part
answer_of t (replies.put req sub status ty part) = put_answer t sub status ty part
answer_of t (replies.put_get req sub status put_ty get_ty part) = put_get_answer t sub status get_ty part
answer_of t (replies.monitor_begun req sub status ty) = monitor_begun_answer t sub status ty
answer_of t (replies.monitor_update req sub u) = monitor_update_answer t sub u
answer_of t (replies.monitor_end req sub status) = monitor_end_answer t sub status
answer_of t (replies.get_field req status ty) = at_command t (byte_of command.GetField) status (described ty)
answer_of t (replies.rpc req sub status v) = call_answer t sub status v
answer_of t other = wrong t (reply_command other)

-- The id of a channel or a request that isn't the client's: it has asked for no channel, or begun no request, of this
-- id, or has ended it.

abbrev pub unless_own : Option ℕ → ℕ → Option ℕ
unless_own None id = Some id
unless_own (Some own) id = if own == id then None else Some id

abbrev pub foreign_id : State → Reply → Option ℕ
foreign_id s (replies.created cid sid status) = unless_own s.cid cid
foreign_id s (replies.get req sub status ty part) = unless_own s.req req
foreign_id s (replies.put req sub status ty part) = unless_own s.req req
foreign_id s (replies.put_get req sub status put_ty get_ty part) = unless_own s.req req
foreign_id s (replies.monitor_begun req sub status ty) = unless_own s.req req
foreign_id s (replies.monitor_update req sub u) = unless_own s.req req
foreign_id s (replies.monitor_end req sub status) = unless_own s.req req
foreign_id s (replies.get_field req status ty) = unless_own s.req req
foreign_id s (replies.rpc req sub status v) = unless_own s.req req
foreign_id s other = None
