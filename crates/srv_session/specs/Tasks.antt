-- What an event asks of a session, with all that it names looked up (pvAccess Protocol Specification, "Message Header"
-- and "Application Messages"). Of the reasons for which a message may be refused the first that holds decides.
use Rattle.std.specs.Prelude.{ℕ, ◌+◌, ◌-◌, Bool, false, true, ◌||◌, ◌==◌, List, [], ◌++◌, length, drop, nat_lt, Option, None, Some, Result, Ok, Err, bytes_eq, codes, if◌then◌else◌}
use Rattle.std.specs.FinMap.{get as at, contains_key}
use Rattle.std.specs.FinSet.{FinSet, empty as no_leaves}
use Rattle.std.specs.Option.{option_and_then}
use Rattle.std.specs.Ordering.{nat_cmp}
use Rattle.pvd_type.specs.Tree.{Tree}
use Rattle.pvd_type.specs.Numbers.{number_at}
use Rattle.pvd_value.specs.Data.{Data, single, text}
use Rattle.pvd_value.specs.Leaves.{leaf_at}
use Rattle.pvd_desc.specs.Types.{Types}
use Rattle.pvd_codec.specs.Faults.{fault_at}
use Rattle.pvd_codec.specs.Reading.{Read, State as Source, part_at}
use Rattle.pvd_codec.specs.declared.fault.ValueCause.{ValueCause}
use Rattle.pva_frames.specs.declared.event.Whole.{Whole}
use Rattle.pva_frames.specs.declared.event.Event.{Event}
use Rattle.pva_frames.specs.declared.event.Event.TheVariants.{Message, Control}
use Rattle.pva_messages.specs.Fields.{Valued}
use Rattle.pva_messages.specs.Reading.{request_at}
use Rattle.pva_messages.specs.Replies as reply
use Rattle.pva_messages.specs.Replies.{Reply}
use Rattle.pva_messages.specs.Requests as said
use Rattle.pva_messages.specs.Requests.{Request, part_place}
use Rattle.pvd_type.specs.Sets.{bit}
use Rattle.pva_messages.specs.Subcommands.{begins, ends, asks_back, counts}
use Rattle.mon_window.specs.Windows.{greatest}
use Rattle.pva_messages.specs.declared.fault.MessageFault.{MessageFault}
use Rattle.pvd_request.specs.Requests.{request_of, part_at as node_at}
use Rattle.pvd_request.specs.declared.request.Request.{Request as Wanted}
use Rattle.pvd_request.specs.declared.request.RequestFault.{RequestFault}
use Rattle.pvd_request.specs.declared.request.RequestFault.TheVariants as faults
use Rattle.pvd_request.specs.declared.request.Root.{Root}
use Rattle.pvd_request.specs.declared.request.Root.TheVariants as roots
use Rattle.chan_table.specs.declared.ask.AskKind.{AskKind}
use Rattle.chan_table.specs.declared.ask.AskKind.TheVariants as kinds
use Rattle.desk_api.specs.Sites.{has_values, names_of}
use Rattle.desk_api.specs.Types.{type_of}
use Rattle.desk_api.specs.declared.channel.Channel.{Channel}
use Rattle.desk_api.specs.declared.history.SiteData.{SiteData}
use Rattle.rpc_services.specs.Answers.{channels_tree, channels_data, info_tree, info_data}
use Rattle.rpc_services.specs.Operations.{asked as operation_asked}
use Rattle.rpc_services.specs.declared.asking.RpcOp.{RpcOp}
use Rattle.rpc_services.specs.declared.asking.RpcOp.TheVariants as operations
use Rattle.rpc_services.specs.declared.asking.RpcRefusal.{RpcRefusal}
use Rattle.rpc_services.specs.declared.asking.RpcRefusal.TheVariants as refusals
use Rattle.srv_session.specs.State.{State, Asked, channel_at, is_full, is_open, is_on, request_on}
use Rattle.srv_session.specs.Replies.{error, refused, is_call, called, field_told, field_refused}

pub data Task : Type 0 where
  -- nothing is asked
  pass_over : Task
  -- a control message: the echo of this datum
  echo_control : ℕ → Task
  -- what is asked is refused by this reply
  refuse : Reply → Task
  -- what is asked is told by this reply
  tell : Reply → Task
  -- a validation: the sizes of the client's buffer and of its registry, its user and its host
  validate : ℕ → ℕ → Option (List ℕ) → Option (List ℕ) → Task
  -- the echo of this payload
  echo : List ℕ → Task
  -- the client's ids of channels, and their names
  create : List (ℕ × List ℕ) → Task
  -- an open channel ends: the server's id, and the client's
  destroy_channel : ℕ → ℕ → Task
  -- a request begins: its kind, its id, the subcommand, the server's id of its channel and this, and what it asks of it
  begin : AskKind → ℕ → ℕ → ℕ → Channel → Wanted → Task
  -- a request gets from its channel, by a message of this kind: its id, the subcommand
  get : AskKind → ℕ → ℕ → Asked → Channel → Task
  -- a request puts to its channel: its id, the subcommand; the leaves that are put, and a value that has them
  put : ℕ → ℕ → Asked → Channel → FinSet nat_cmp → Data → Task
  -- a request puts so to its channel, and then gets from it
  put_get : ℕ → ℕ → Asked → Channel → FinSet nat_cmp → Data → Task
  -- a request is answered by this reply: its id, the subcommand
  respond : ℕ → ℕ → Reply → Task
  -- a request asks for all records: its id, the subcommand
  snapshot : ℕ → ℕ → Task
  -- a monitor begins: its id, the subcommand, the server's id of its channel and this, what it asks of it, and how many updates it may
  -- be sent before it acknowledges some, if it is pipelined
  subscribe : ℕ → ℕ → ℕ → Channel → Wanted → Option ℕ → Task
  -- a monitor goes on: its id, how many updates are acknowledged, whether it is started from now on, and the request that it was
  steer : ℕ → Option ℕ → Bool → Asked → Task
  -- the request of this id ends
  destroy_request : ℕ → Task

-- What a session hears in an event: a task, and the client's types behind it; a message that can't be read; or one by which a monitor
-- might be sent more updates than a window may count.
pub data Hearing : Type 0 where
  asks : Task → Types → Hearing
  unreadable : MessageFault → Hearing
  over_range : Hearing

-- Control command 3 is an echo request. The others ask nothing of a server.
abbrev pub heard_control : State → ℕ → ℕ → Hearing
heard_control s command number = asks (if command == 3 then echo_control number else pass_over) s.types

-- Validations.

-- the text of a field of an argument, where it has one; texts with a bound are texts too

abbrev pub text_of : Data → Option (List ℕ)
text_of (single (text t)) = Some t
text_of value = None

abbrev pub text_in : Valued → List ℕ → Option (List ℕ)
text_in None path = None
text_in (Some v) path = option_and_then (λ n. option_and_then text_of (leaf_at n v.0 v.1)) (number_at path v.0)

-- The method `ca` brings the client's user and host.
abbrev pub validated_by : ℕ → ℕ → List ℕ → Valued → Task
validated_by buffer registry method argument =
    if bytes_eq method (codes "anonymous") then validate buffer registry None None
    else if bytes_eq method (codes "ca")
    then validate buffer registry (text_in argument (codes "user")) (text_in argument (codes "host"))
    else refuse (reply.validated (error (codes "authentication not offered")))

-- Requests that begin.

-- why a request asks nothing of its channel, in words; of want of memory nothing is told
abbrev pub fault_text : RequestFault → List ℕ
fault_text faults.NothingSelected = codes "nothing selected"
fault_text (faults.BadOption name) = codes "bad option " ++ name
fault_text faults.NoMemory = []

abbrev pub beginning_as : AskKind → ℕ → ℕ → ℕ → Channel → Result Wanted RequestFault → Task
beginning_as kind req sub sid channel (Ok wanted) = begin kind req sub sid channel wanted
beginning_as kind req sub sid channel (Err fault) = refuse (refused kind req sub (fault_text fault))

-- what a call asks of its channel: it selects nothing
abbrev pub nothing_wanted : Wanted
nothing_wanted = record { mask = no_leaves; atomic = None; queue = 4; pipeline = false }

-- the member under which the fields of a request stand: `getField`, where it is there, for what a put-get gives back
abbrev pub root_for : AskKind → Root
root_for kinds.Get = roots.Field
root_for kinds.Put = roots.Field
root_for kinds.PutGet = roots.GetField
root_for kinds.Rpc = roots.Field
root_for kinds.Monitor = roots.Field

-- what is asked of a channel of this type
abbrev pub wanted_for : AskKind → Tree → Valued → Result Wanted RequestFault
wanted_for kind ty v = if is_call kind then Ok nothing_wanted else request_of ty (root_for kind) v

-- Why no request of a kind may begin on a channel: the service alone is called, and it has no value.

abbrev pub unfit_for : Bool → Bool → Option (List ℕ)
unfit_for true valued = if valued then Some (codes "no service here") else None
unfit_for false valued = if valued then None else Some (codes "channel has no value")

abbrev pub unfit : AskKind → Channel → Option (List ℕ)
unfit kind channel = unfit_for (is_call kind) (has_values channel)

abbrev pub beginning_on : SiteData → AskKind → ℕ → ℕ → ℕ → Valued → Channel → Option (List ℕ) → Task
beginning_on site kind req sub sid v channel (Some why) = refuse (refused kind req sub why)
beginning_on site kind req sub sid v channel None =
    beginning_as kind req sub sid channel (wanted_for kind (type_of site channel) v)

abbrev pub beginning : SiteData → State → AskKind → ℕ → ℕ → ℕ → Valued → Option Channel → Task
beginning site s kind req sub sid v None = refuse (refused kind req sub (codes "unknown channel"))
beginning site s kind req sub sid v (Some channel) =
    if contains_key s.requests req then refuse (refused kind req sub (codes "request id in use"))
    else if is_full s.requests then refuse (refused kind req sub (codes "too many requests"))
    else beginning_on site kind req sub sid v channel (unfit kind channel)

-- Requests that have begun.

abbrev pub is_kind : AskKind → AskKind → Bool
is_kind kinds.Get kinds.Get = true
is_kind kinds.Put kinds.Put = true
is_kind kinds.PutGet kinds.PutGet = true
is_kind kinds.Rpc kinds.Rpc = true
is_kind kinds.Monitor kinds.Monitor = true
is_kind one other = false

-- The request that a message of this kind is about, with its channel; or why it is refused.
abbrev pub in_phase : AskKind → Option (Asked × Channel) → Result (Asked × Channel) (List ℕ)
in_phase kind None = Err (codes "unknown request")
in_phase kind (Some found) = if is_kind kind found.0.kind then Ok found else Err (codes "wrong phase")

abbrev pub found_for : State → AskKind → ℕ → ℕ → Result (Asked × Channel) (List ℕ)
found_for s kind sid req = in_phase kind (request_on s sid req)

abbrev pub getting : AskKind → ℕ → ℕ → Result (Asked × Channel) (List ℕ) → Task
getting kind req sub (Ok found) = get kind req sub found.0 found.1
getting kind req sub (Err why) = refuse (refused kind req sub why)

abbrev pub asked_get : SiteData → State → ℕ → ℕ → ℕ → Valued → Task
asked_get site s sid req sub v =
    if begins sub then beginning site s kinds.Get req sub sid v (channel_at s.channels sid)
    else getting kinds.Get req sub (found_for s kinds.Get sid req)

-- the fault of a message
abbrev pub fault_in : Whole → ValueCause × ℕ → MessageFault
fault_in whole (cause, left) = record { command = whole.command; cause = fault_at cause (length whole.payload - left) }

-- a put, or a put-get

abbrev pub putting_as : Bool → ℕ → ℕ → Asked → Channel → FinSet nat_cmp → Data → Task
putting_as true req sub ask channel mask value = put_get req sub ask channel mask value
putting_as false req sub ask channel mask value = put req sub ask channel mask value

abbrev pub heard_part : Bool → Whole → ℕ → ℕ → Asked × Channel → Read Source (FinSet nat_cmp × Data) → Hearing
heard_part gets whole req sub found (Ok (part, (rest, types))) =
    asks (putting_as gets req sub found.0 found.1 part.0 part.1) types
heard_part gets whole req sub found (Err fault) = unreadable (fault_in whole fault)

-- The part of a put, or of a put-get, is read here, where nothing else decides. It stands behind the ids and the
-- subcommand.
abbrev pub reading_part : Bool → SiteData → Whole → Types → ℕ → ℕ → Asked × Channel → Hearing
reading_part gets site whole types req sub found =
    heard_part gets whole req sub found (part_at whole.order (type_of site found.1) (drop part_place whole.payload, types))

abbrev pub heard_putting : SiteData → Whole → Types → ℕ → ℕ → Result (Asked × Channel) (List ℕ) → Hearing
heard_putting site whole types req sub (Ok found) = reading_part false site whole types req sub found
heard_putting site whole types req sub (Err why) = asks (refuse (refused kinds.Put req sub why)) types

-- a put's request also gets its present value
abbrev pub heard_put : SiteData → State → Whole → Types → ℕ → ℕ → ℕ → Valued → Hearing
heard_put site s whole types sid req sub v =
    if begins sub then asks (beginning site s kinds.Put req sub sid v (channel_at s.channels sid)) types
    else if asks_back sub then asks (getting kinds.Put req sub (found_for s kinds.Put sid req)) types
    else heard_putting site whole types req sub (found_for s kinds.Put sid req)

-- A put-get has no bits 40 and 80.

abbrev pub unsupported : ℕ → ℕ → Task
unsupported req sub = respond req sub (refused kinds.PutGet req sub (codes "unsupported subcommand"))

abbrev pub heard_getting : SiteData → Whole → Types → ℕ → ℕ → Result (Asked × Channel) (List ℕ) → Hearing
heard_getting site whole types req sub (Ok found) =
    if asks_back sub || counts sub then asks (unsupported req sub) types
    else reading_part true site whole types req sub found
heard_getting site whole types req sub (Err why) = asks (refuse (refused kinds.PutGet req sub why)) types

abbrev pub heard_put_get : SiteData → State → Whole → Types → ℕ → ℕ → ℕ → Valued → Hearing
heard_put_get site s whole types sid req sub v =
    if begins sub then asks (beginning site s kinds.PutGet req sub sid v (channel_at s.channels sid)) types
    else heard_getting site whole types req sub (found_for s kinds.PutGet sid req)

-- The type of a field of a channel, by its path; the empty path is the whole type.

abbrev pub told_field : ℕ → Option Tree → Task
told_field req None = refuse (field_refused req (codes "no such field"))
told_field req (Some ty) = tell (field_told req ty)

abbrev pub asked_field : SiteData → ℕ → List ℕ → Option Channel → Task
asked_field site req path None = refuse (field_refused req (codes "unknown channel"))
asked_field site req path (Some channel) =
    if has_values channel then told_field req (node_at path (type_of site channel))
    else refuse (field_refused req (codes "channel has no value"))

-- Calls of the service.

-- why a call asks for nothing
abbrev pub call_refusal : RpcRefusal → List ℕ
call_refusal refusals.NotNturi = codes "not an NTURI"
call_refusal refusals.UnknownOperation = codes "unknown operation"

abbrev pub operation_in : Valued → Result RpcOp RpcRefusal
operation_in None = Err refusals.NotNturi
operation_in (Some v) = operation_asked v.0 v.1

-- how many records and groups the site has
abbrev pub info_of : SiteData → Data
info_of site = info_data (length site.names) (length site.groups)

abbrev pub called_for : SiteData → ℕ → ℕ → Result RpcOp RpcRefusal → Task
called_for site req sub (Ok operations.Channels) =
    respond req sub (called req sub channels_tree (channels_data (names_of site)))
called_for site req sub (Ok operations.Info) = respond req sub (called req sub info_tree (info_of site))
called_for site req sub (Ok operations.Snapshot) = snapshot req sub
called_for site req sub (Err refusal) = respond req sub (refused kinds.Rpc req sub (call_refusal refusal))

abbrev pub calling : SiteData → ℕ → ℕ → Valued → Result (Asked × Channel) (List ℕ) → Task
calling site req sub v (Ok found) = called_for site req sub (operation_in v)
calling site req sub v (Err why) = refuse (refused kinds.Rpc req sub why)

abbrev pub asked_call : SiteData → State → ℕ → ℕ → ℕ → Valued → Task
asked_call site s sid req sub v =
    if begins sub then beginning site s kinds.Rpc req sub sid v (channel_at s.channels sid)
    else calling site req sub v (found_for s kinds.Rpc sid req)

-- Monitors (pvAccess Protocol Specification, "Channel Monitor").

-- whether a window that is asked for would be above the greatest
abbrev pub is_over : Option ℕ → Bool
is_over None = false
is_over (Some free) = nat_lt greatest free

-- A monitor that would begin is pipelined where its message has a count.
abbrev pub windowed : Types → Option ℕ → Task → Hearing
windowed types count (begin kind req sub sid channel wanted) =
    if is_over count then over_range else asks (subscribe req sub sid channel wanted count) types
windowed types count task = asks task types

-- what is free with this acknowledged; without a window an acknowledgement has no effect
abbrev pub acknowledged : Option ℕ → Option ℕ → Option ℕ
acknowledged (Some count) (Some free) = Some (free + count)
acknowledged count window = window

abbrev pub starts_or_stops : ℕ → Bool
starts_or_stops sub = bit sub 2

-- Bit 04 starts a monitor where bit 40 stands too, and else stops it.
abbrev pub started_by : ℕ → Bool → Bool
started_by sub was = if starts_or_stops sub then asks_back sub else was

-- The bits are looked at in this order: 80, then 04 with or without 40, then 10.
abbrev pub steering : Types → ℕ → ℕ → Option ℕ → Asked → Hearing
steering types req sub count ask =
    if is_over (acknowledged count ask.window) then over_range
    else if ends sub then asks (destroy_request req) types
    else asks (steer req count (started_by sub ask.started) ask) types

abbrev pub steering_found : Types → ℕ → ℕ → Option ℕ → Result (Asked × Channel) (List ℕ) → Hearing
steering_found types req sub count (Ok found) = steering types req sub count found.0
steering_found types req sub count (Err why) = asks pass_over types

abbrev pub heard_monitor : SiteData → State → Types → ℕ → ℕ → ℕ → Valued → Option ℕ → Hearing
heard_monitor site s types sid req sub v count =
    if begins sub then windowed types count (beginning site s kinds.Monitor req sub sid v (channel_at s.channels sid))
    else steering_found types req sub count (found_for s kinds.Monitor sid req)

-- What ends, where it is there.

abbrev pub asked_end : State → ℕ → ℕ → Task
asked_end s sid cid = if is_open s.channels sid cid then destroy_channel sid cid else pass_over

abbrev pub asked_request_end : State → ℕ → ℕ → Task
asked_request_end s sid req = if is_on sid (at s.requests req) then destroy_request req else pass_over

-- A message that was read, behind which the client's types are these.
abbrev pub heard_message : SiteData → State → Whole → Types → Request → Hearing
heard_message site s whole types (said.validation buffer registry qos method argument) =
    asks (validated_by buffer registry method argument) types
heard_message site s whole types (said.echo payload) = asks (echo whole.payload) types
heard_message site s whole types (said.create channels) = asks (create channels) types
heard_message site s whole types (said.destroy_channel sid cid) =
    asks (asked_end s sid cid) types
heard_message site s whole types (said.get sid req sub v) = asks (asked_get site s sid req sub v) types
heard_message site s whole types (said.put sid req sub v part) = heard_put site s whole types sid req sub v
heard_message site s whole types (said.destroy_request sid req) =
    asks (asked_request_end s sid req) types
heard_message site s whole types (said.cancel sid req) = asks pass_over types
heard_message site s whole types (said.message req kind words) = asks pass_over types
heard_message site s whole types (said.skipped command) = asks pass_over types
heard_message site s whole types (said.put_get sid req sub v part) = heard_put_get site s whole types sid req sub v
heard_message site s whole types (said.get_field sid req path) =
    asks (asked_field site req path (channel_at s.channels sid)) types
heard_message site s whole types (said.rpc sid req sub v) = asks (asked_call site s sid req sub v) types
heard_message site s whole types (said.monitor sid req sub v count) = heard_monitor site s types sid req sub v count

abbrev pub heard_read : SiteData → State → Whole → Read Source Request → Hearing
heard_read site s whole (Ok (request, (rest, types))) = heard_message site s whole types request
heard_read site s whole (Err fault) = unreadable (fault_in whole fault)

-- Before a validation was answered OK all but validations and echoes are passed over unread.
abbrev pub is_heard : State → ℕ → Bool
is_heard s command = s.validated || (command == 1 || command == 2)

abbrev pub heard_whole : SiteData → State → Whole → Hearing
heard_whole site s whole =
    if is_heard s whole.command
    then heard_read site s whole (request_at whole.order None whole.command (whole.payload, s.types))
    else asks pass_over s.types

-- What the session hears in an event.
abbrev pub heard : SiteData → State → Event → Hearing
heard site s (Message whole) = heard_whole site s whole
heard site s (Control command number) = heard_control s command number
