-- What a run prints where its operation ended, as a function of the operation, of the server's site, and of the marks of
-- its desk. No byte that passed between the two ends enters it.
use Rattle.std.specs.Prelude.{ℕ, ◌==◌, ◌&&◌, not, Bool, true, false, List, [], ◌∷◌, ◌++◌, take, Option, None, Some, Result, Ok, Err, if◌then◌else◌}
use Rattle.std.specs.FinSet.{FinSet, empty}
use Rattle.std.specs.List.{flat_map, list_any}
use Rattle.std.specs.Ordering.{nat_cmp}
use Rattle.pvd_type.specs.Numbers.{leaves}
use Rattle.pvd_type.specs.Tree.{Tree}
use Rattle.pvd_value.specs.Data.{Data}
use Rattle.pvd_value.specs.View.{view}
use Rattle.rec_kinds.specs.declared.state.RecState.{RecState}
use Rattle.pvd_request.specs.Requests.{request_of}
use Rattle.pvd_request.specs.declared.request.Request.{Request as Wanted}
use Rattle.pvd_request.specs.declared.request.RequestFault.{RequestFault}
use Rattle.pvd_request.specs.declared.request.Root.TheVariants as roots
use Rattle.mon_queue.specs.declared.update.Update.{Update}
use Rattle.rpc_services.specs.Answers.{channels_tree, channels_data, info_tree, snapshot_tree}
use Rattle.rpc_services.specs.Operations.{operation_named}
use Rattle.rpc_services.specs.declared.asking.RpcOp.{RpcOp}
use Rattle.rpc_services.specs.declared.asking.RpcOp.TheVariants as services
use Rattle.rpc_services.specs.declared.asking.RpcRefusal.{RpcRefusal}
use Rattle.desk_api.specs.Calls.{rows_shown}
use Rattle.desk_api.specs.Sites.{channel_named, has_values, names_of}
use Rattle.desk_api.specs.Types.{type_of}
use Rattle.desk_api.specs.Views.{value_of, laid}
use Rattle.desk_api.specs.declared.channel.Channel.{Channel}
use Rattle.desk_api.specs.declared.history.SiteData.{SiteData}
use Rattle.desk_api.specs.declared.mark.Mark.{Mark}
use Rattle.desk_api.specs.declared.mark.Mark.TheVariants.{Read, Entered, Overweight, Popped}
use Rattle.srv_session.specs.Rows.{rows_data}
use Rattle.srv_session.specs.Tasks.{info_of}
use Rattle.cli_text.specs.Lines.{part_text, type_text}
use Rattle.cli_session.specs.Messages.{get_request, put_get_request}
use Rattle.cli_session.specs.declared.ask.Ask.{Ask}
use Rattle.cli_session.specs.declared.ask.Operation.{Operation}
use Rattle.cli_session.specs.declared.ask.Operation.TheVariants as operation

-- What the marks tell.

-- the states that they found, in order, laid over others
abbrev pub found_by : List RecState → List Mark → List RecState
found_by states [] = states
found_by states (Read at channel footprint found ∷ marks) = found_by (laid states footprint found) marks
found_by states (Entered at entry looked found ∷ marks) = found_by (laid states looked found) marks
found_by states (mark ∷ marks) = found_by states marks

-- what the first look found
abbrev pub first_found : List Mark → List RecState
first_found [] = []
first_found (Read at channel footprint found ∷ marks) = found
first_found (mark ∷ marks) = first_found marks

-- the updates of their pops, in order
abbrev pub updates_in : List Mark → List Update
updates_in [] = []
updates_in (Popped at slot (Some update) ∷ marks) = update ∷ updates_in marks
updates_in (mark ∷ marks) = updates_in marks

-- whether an entry was made, and none was too heavy
abbrev pub is_entry : Mark → Bool
is_entry (Entered at entry looked found) = true
is_entry mark = false

abbrev pub is_overweight : Mark → Bool
is_overweight (Overweight at footprint actions kept added limit) = true
is_overweight mark = false

abbrev pub was_put : List Mark → Bool
was_put log = list_any is_entry log && not (list_any is_overweight log)

-- the marks from the first entry on
abbrev pub from_entry : List Mark → List Mark
from_entry [] = []
from_entry (Entered at entry looked found ∷ marks) = Entered at entry looked found ∷ marks
from_entry (mark ∷ marks) = from_entry marks

-- The lines.

-- these leaves of a value of this type
abbrev pub leaves_text : Tree → FinSet nat_cmp → Data → List ℕ
leaves_text ty mask value = part_text mask empty ty value

-- the leaves that a request selects of what the channel shows, of the states that the marks found; none where it selects
-- nothing
abbrev pub shown_text : SiteData → List Mark → Channel → Result Wanted RequestFault → List ℕ
shown_text site log channel (Ok wanted) =
    leaves_text (type_of site channel) wanted.mask (value_of site channel (found_by site.opening log))
shown_text site log channel (Err fault) = []

-- an update: its changed leaves, and which of them had changed more than once
abbrev pub update_text : Tree → Update → List ℕ
update_text ty update = part_text update.changed update.overrun ty (view update.value)

-- how many updates a monitor awaits: one at least
abbrev pub awaited_updates : ℕ → ℕ
awaited_updates count = if count == 0 then 1 else count

-- a value whole
abbrev pub whole_text : Tree → Data → List ℕ
whole_text ty value = leaves_text ty (leaves ty) value

-- the answer to a call of the service
abbrev pub service_text : SiteData → List Mark → Result RpcOp RpcRefusal → List ℕ
service_text site log (Ok services.Channels) = whole_text channels_tree (channels_data (names_of site))
service_text site log (Ok services.Info) = whole_text info_tree (info_of site)
service_text site log (Ok services.Snapshot) =
    whole_text snapshot_tree (rows_data (rows_shown site.names (first_found log)))
service_text site log (Err refusal) = []

-- The operations on a channel that has values, and on the service, which has none.

abbrev pub valued_text : SiteData → List Mark → Ask → Channel → Operation → List ℕ
valued_text site log ask channel operation.Get =
    shown_text site log channel (request_of (type_of site channel) roots.Field (get_request ask))
valued_text site log ask channel (operation.Put words) = []
valued_text site log ask channel (operation.PutGet words) =
    if was_put log
    then
    shown_text site (from_entry log) channel
    (request_of (type_of site channel) roots.GetField (put_get_request ask))
    else []
valued_text site log ask channel (operation.Monitor queue window count) =
    flat_map (update_text (type_of site channel)) (take (awaited_updates count) (updates_in log))
valued_text site log ask channel operation.Info = type_text (type_of site channel)
valued_text site log ask channel (operation.Call name) = []

abbrev pub unvalued_text : SiteData → List Mark → Operation → List ℕ
unvalued_text site log (operation.Call name) = service_text site log (operation_named name)
unvalued_text site log other = []

abbrev pub channel_text : SiteData → List Mark → Ask → Option Channel → List ℕ
channel_text site log ask None = []
channel_text site log ask (Some channel) =
    if has_values channel then valued_text site log ask channel ask.operation
    else unvalued_text site log ask.operation

-- The channel's name and a line feed, and then what the operation tells.
abbrev pub answer_text : Ask → SiteData → List Mark → List ℕ
answer_text ask site log = (ask.name ++ 10 ∷ []) ++ channel_text site log ask (channel_named site ask.name)
