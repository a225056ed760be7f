-- The messages and faults of the program as plain data.
use Rattle.std.specs.Prelude.{Option, Some, None}
use Rattle.std.specs.Ordering.{nat_cmp}
use Rattle.std.specs.FinSet.{FinSet}
use Rattle.pvd_type.specs.Tree.{Tree}
use Rattle.pvd_value.specs.View.{view}
use Rattle.pvd_value.specs.declared.value.PvValue.{PvValue}
use Rattle.pva_messages.specs.declared.part.Part.{Part}
use Rattle.pva_messages.specs.declared.part.PutPart as put_parts
use Rattle.pva_messages.specs.declared.part.PutPart.TheVariants.{Absent, Unread, Given}
use Rattle.pva_messages.specs.declared.to_server.ToServer.{ToServer}
use Rattle.pva_messages.specs.declared.to_server.ToServer.TheVariants as to_server
use Rattle.pva_messages.specs.declared.to_client.ToClient.{ToClient}
use Rattle.pva_messages.specs.declared.to_client.ToClient.TheVariants as to_client
use Rattle.pva_messages.specs.Fields.{Valued, PartData}
use Rattle.pva_messages.specs.Requests as requests
use Rattle.pva_messages.specs.Requests.{Request, PutPart, absent, unread, given}
use Rattle.pva_messages.specs.Replies as replies
use Rattle.pva_messages.specs.Replies.{Reply}

abbrev pub valued_view : Option (Tree × PvValue) → Valued
valued_view None = None
valued_view (Some v) = Some (v.0, view v.1)

abbrev pub part_of : Tree → FinSet nat_cmp → PvValue → PartData
part_of ty mask value = record { ty = ty; mask = mask; value = view value }

abbrev pub part_data : Part → PartData
part_data p = part_of p.ty p.mask p.value

abbrev pub part_view : Option Part → Option PartData
part_view None = None
part_view (Some p) = Some (part_data p)

abbrev pub put_part_view : put_parts.PutPart → PutPart
put_part_view Absent = absent
put_part_view (Unread place) = unread place
put_part_view (Given p) = given (part_data p)

abbrev pub update_view : Option (Part × FinSet nat_cmp) → Option (PartData × FinSet nat_cmp)
update_view None = None
update_view (Some u) = Some (part_data u.0, u.1)

abbrev pub request_view : ToServer → Request
request_view (to_server.Validation buffer registry qos method argument) =
    requests.validation buffer registry qos method (valued_view argument)
request_view (to_server.Echo bytes) = requests.echo bytes.items
request_view (to_server.Create channels) = requests.create channels.items
request_view (to_server.DestroyChannel sid cid) = requests.destroy_channel sid cid
request_view (to_server.Get sid req sub request) = requests.get sid req sub (valued_view request)
request_view (to_server.Put sid req sub request part) =
    requests.put sid req sub (valued_view request) (put_part_view part)
request_view (to_server.PutGet sid req sub request part) =
    requests.put_get sid req sub (valued_view request) (put_part_view part)
request_view (to_server.Monitor sid req sub request count) = requests.monitor sid req sub (valued_view request) count
request_view (to_server.DestroyRequest sid req) = requests.destroy_request sid req
request_view (to_server.Cancel sid req) = requests.cancel sid req
request_view (to_server.GetField sid req path) = requests.get_field sid req path
request_view (to_server.Message req kind text) = requests.message req kind text
request_view (to_server.Rpc sid req sub argument) = requests.rpc sid req sub (valued_view argument)
request_view (to_server.Skipped command) = requests.skipped command

abbrev pub reply_view : ToClient → Reply
reply_view (to_client.Validation buffer registry methods) = replies.validation buffer registry methods.items
reply_view (to_client.Echo bytes) = replies.echo bytes.items
reply_view (to_client.Created cid sid status) = replies.created cid sid status
reply_view (to_client.ChannelDestroyed sid cid) = replies.channel_destroyed sid cid
reply_view (to_client.Validated status) = replies.validated status
reply_view (to_client.Get req sub status ty part) = replies.get req sub status ty (part_view part)
reply_view (to_client.Put req sub status ty part) = replies.put req sub status ty (part_view part)
reply_view (to_client.PutGet req sub status put_ty get_ty part) =
    replies.put_get req sub status put_ty get_ty (part_view part)
reply_view (to_client.MonitorBegun req sub status ty) = replies.monitor_begun req sub status ty
reply_view (to_client.MonitorUpdate req sub update) = replies.monitor_update req sub (update_view update)
reply_view (to_client.MonitorEnd req sub status) = replies.monitor_end req sub status
reply_view (to_client.GetField req status ty) = replies.get_field req status ty
reply_view (to_client.Message req kind text) = replies.message req kind text
reply_view (to_client.Rpc req sub status result) = replies.rpc req sub status (valued_view result)
reply_view (to_client.Skipped command) = replies.skipped command
