use Rattle.std.proofs.Common.{◌∙◌, ℕ, List, length, sym, ap, subst}
use Rattle.pva_frames.specs.LentView.{whole_of}
use Rattle.pva_messages.specs.Requests.{request_fields}
use Rattle.pva_messages.specs.Views.{request_view, valued_view}
use Rattle.pva_messages.specs.declared.to_server.ToServer.{ToServer}
use Rattle.pva_messages.specs.Written.{FitsField}
use Rattle.pvd_codec.specs.Written.{CanEach}
use Rattle.srv_session.specs.State.{channel_at}
use Rattle.srv_session.specs.Tasks.{Hearing, asks, echo, create, pass_over, validated_by, asked_get, asked_field, asked_call, asked_end, asked_request_end, heard_message, heard_monitor}
use Rattle.srv_session.specs.Views.{state_of, show, HasPlace}
use Rattle.srv_session.proofs.Beginning.{get_fits, put_fits, put_get_fits, call_fits, monitor_fits}
use Rattle.srv_session.proofs.Heeding.{heeds_as, heeds_so}
use Rattle.srv_session.proofs.session.Session.handle_request.Goals as goal

pub answer_get-requires-clause-fits : goal.answer_get-requires-clause-fits
answer_get-requires-clause-fits g c =
    get_fits c.in-Get.sid c.in-Get.req c.in-Get.sub c.in-Get.request (subst (λ (r : ToServer). CanEach FitsField (request_fields (request_view r))) c.in-Get.is c.requires.fits)

pub answer_put-requires-clause-fits : goal.answer_put-requires-clause-fits
answer_put-requires-clause-fits g c =
    put_fits c.in-Put.sid c.in-Put.req c.in-Put.sub c.in-Put.request c.in-Put.part (subst (λ (r : ToServer). CanEach FitsField (request_fields (request_view r))) c.in-Put.is c.requires.fits)

pub answer_put-requires-clause-place : goal.answer_put-requires-clause-place
answer_put-requires-clause-place g c = subst (λ (r : ToServer). HasPlace (request_view r) (length c.args.message.now.payload.now)) c.in-Put.is c.requires.place

pub answer_put_get-requires-clause-fits : goal.answer_put_get-requires-clause-fits
answer_put_get-requires-clause-fits g c =
    put_get_fits c.in-PutGet.sid c.in-PutGet.req c.in-PutGet.sub c.in-PutGet.request c.in-PutGet.part (subst (λ (r : ToServer). CanEach FitsField (request_fields (request_view r))) c.in-PutGet.is c.requires.fits)

pub answer_put_get-requires-clause-place : goal.answer_put_get-requires-clause-place
answer_put_get-requires-clause-place g c = subst (λ (r : ToServer). HasPlace (request_view r) (length c.args.message.now.payload.now)) c.in-PutGet.is c.requires.place

pub answer_call-requires-clause-fits : goal.answer_call-requires-clause-fits
answer_call-requires-clause-fits g c =
    call_fits c.in-Rpc.sid c.in-Rpc.req c.in-Rpc.sub c.in-Rpc.argument (subst (λ (r : ToServer). CanEach FitsField (request_fields (request_view r))) c.in-Rpc.is c.requires.fits)

pub returns-in-Validation : goal.returns-in-Validation
returns-in-Validation g c =
    let seat = g.D.Desk.seat c.args.desk.now in
    let s = state_of c.args.self.now in
    let whole = whole_of c.args.message.now in
    let hears : ToServer → Hearing = λ (r : ToServer). heard_message seat.seen.base.site s whole s.types (request_view r) in
    let old = show seat c.args.self.now in
    let new = show seat c.validate.new.self in
    let task = validated_by c.in-Validation.buffer c.in-Validation.registry c.in-Validation.method (valued_view c.in-Validation.argument) in
    heeds_so old new c.args.moment (hears c.args.request.now) (asks task s.types) c.stopping.result (ap hears c.in-Validation.is)
    (heeds_as old new c.args.moment task c.validate.result c.stopping.result c.stopping.ensures (c.validate.ensures seat c.has_legal_history.ensures c.args.moment))

pub returns-in-Echo : goal.returns-in-Echo
returns-in-Echo g c =
    let seat = g.D.Desk.seat c.args.desk.now in
    let s = state_of c.args.self.now in
    let whole = whole_of c.args.message.now in
    let hears : ToServer → Hearing = λ (r : ToServer). heard_message seat.seen.base.site s whole s.types (request_view r) in
    let old = show seat c.args.self.now in
    let new = show seat c.echo.new.self in
    let task = echo whole.payload in
    heeds_so old new c.args.moment (hears c.args.request.now) (asks task s.types) c.stopping-in-Echo.result (ap hears c.in-Echo.is)
    (heeds_as old new c.args.moment task c.echo.result c.stopping-in-Echo.result c.stopping-in-Echo.ensures (c.echo.ensures seat c.has_legal_history.ensures c.args.moment))

pub returns-in-DestroyChannel : goal.returns-in-DestroyChannel
returns-in-DestroyChannel g c =
    let seat = g.D.Desk.seat c.args.desk.now in
    let s = state_of c.args.self.now in
    let whole = whole_of c.args.message.now in
    let hears : ToServer → Hearing = λ (r : ToServer). heard_message seat.seen.base.site s whole s.types (request_view r) in
    heeds_so (show seat c.args.self.now) (show (g.D.Desk.seat c.destroy_channel.new.desk) c.destroy_channel.new.self) c.args.moment (hears c.args.request.now) (asks (asked_end s c.in-DestroyChannel.sid c.in-DestroyChannel.cid) s.types) c.destroy_channel.result (ap hears c.in-DestroyChannel.is)
    (c.destroy_channel.ensures c.args.moment)

pub returns-in-DestroyRequest : goal.returns-in-DestroyRequest
returns-in-DestroyRequest g c =
    let seat = g.D.Desk.seat c.args.desk.now in
    let s = state_of c.args.self.now in
    let whole = whole_of c.args.message.now in
    let hears : ToServer → Hearing = λ (r : ToServer). heard_message seat.seen.base.site s whole s.types (request_view r) in
    heeds_so (show seat c.args.self.now) (show (g.D.Desk.seat c.destroy_request.new.desk) c.destroy_request.new.self) c.args.moment (hears c.args.request.now) (asks (asked_request_end s c.in-DestroyRequest.sid c.in-DestroyRequest.req) s.types) c.destroy_request.result (ap hears c.in-DestroyRequest.is)
    (c.destroy_request.ensures c.args.moment)

pub returns-in-Cancel : goal.returns-in-Cancel
returns-in-Cancel g c =
    let seat = g.D.Desk.seat c.args.desk.now in
    let s = state_of c.args.self.now in
    let whole = whole_of c.args.message.now in
    let hears : ToServer → Hearing = λ (r : ToServer). heard_message seat.seen.base.site s whole s.types (request_view r) in
    let old = show seat c.args.self.now in
    let new = show seat c.pass_over.new.self in
    let task = pass_over in
    heeds_so old new c.args.moment (hears c.args.request.now) (asks task s.types) c.stopping-in-Cancel.result (ap hears c.in-Cancel.is)
    (heeds_as old new c.args.moment task c.pass_over.result c.stopping-in-Cancel.result c.stopping-in-Cancel.ensures (c.pass_over.ensures seat c.has_legal_history.ensures c.args.moment))

pub returns-in-Message : goal.returns-in-Message
returns-in-Message g c =
    let seat = g.D.Desk.seat c.args.desk.now in
    let s = state_of c.args.self.now in
    let whole = whole_of c.args.message.now in
    let hears : ToServer → Hearing = λ (r : ToServer). heard_message seat.seen.base.site s whole s.types (request_view r) in
    let old = show seat c.args.self.now in
    let new = show seat c.pass_over-in-Message.new.self in
    let task = pass_over in
    heeds_so old new c.args.moment (hears c.args.request.now) (asks task s.types) c.stopping-in-Message.result (ap hears c.in-Message.is)
    (heeds_as old new c.args.moment task c.pass_over-in-Message.result c.stopping-in-Message.result c.stopping-in-Message.ensures (c.pass_over-in-Message.ensures seat c.has_legal_history.ensures c.args.moment))

pub returns-in-Skipped : goal.returns-in-Skipped
returns-in-Skipped g c =
    let seat = g.D.Desk.seat c.args.desk.now in
    let s = state_of c.args.self.now in
    let whole = whole_of c.args.message.now in
    let hears : ToServer → Hearing = λ (r : ToServer). heard_message seat.seen.base.site s whole s.types (request_view r) in
    let old = show seat c.args.self.now in
    let new = show seat c.pass_over-in-Skipped.new.self in
    let task = pass_over in
    heeds_so old new c.args.moment (hears c.args.request.now) (asks task s.types) c.stopping-in-Skipped.result (ap hears c.in-Skipped.is)
    (heeds_as old new c.args.moment task c.pass_over-in-Skipped.result c.stopping-in-Skipped.result c.stopping-in-Skipped.ensures (c.pass_over-in-Skipped.ensures seat c.has_legal_history.ensures c.args.moment))

pub returns-in-Get : goal.returns-in-Get
returns-in-Get g c =
    let seat = g.D.Desk.seat c.args.desk.now in
    let s = state_of c.args.self.now in
    let whole = whole_of c.args.message.now in
    let hears : ToServer → Hearing = λ (r : ToServer). heard_message seat.seen.base.site s whole s.types (request_view r) in
    let old = show seat c.args.self.now in
    let new = show (g.D.Desk.seat c.answer_get.new.desk) c.answer_get.new.self in
    let task = asked_get seat.seen.base.site s c.in-Get.sid c.in-Get.req c.in-Get.sub (valued_view c.in-Get.request) in
    heeds_so old new c.args.moment (hears c.args.request.now) (asks task s.types) c.stopping-in-Get.result (ap hears c.in-Get.is)
    (heeds_as old new c.args.moment task c.answer_get.result c.stopping-in-Get.result c.stopping-in-Get.ensures (c.answer_get.ensures c.args.moment))

pub returns-in-Create : goal.returns-in-Create
returns-in-Create g c =
    let seat = g.D.Desk.seat c.args.desk.now in
    let s = state_of c.args.self.now in
    let whole = whole_of c.args.message.now in
    let hears : ToServer → Hearing = λ (r : ToServer). heard_message seat.seen.base.site s whole s.types (request_view r) in
    let old = show seat c.args.self.now in
    let new = show seat c.create.new.self in
    let task = create c.deref.result.now in
    heeds_so old new c.args.moment (hears c.args.request.now) (asks task s.types) c.stopping-in-Create.result
    (ap hears c.in-Create.is ∙ ap (λ (names : List (ℕ × List ℕ)). asks (create names) s.types) (sym c.deref.ensures.value))
    (heeds_as old new c.args.moment task c.create.result c.stopping-in-Create.result c.stopping-in-Create.ensures (c.create.ensures c.has_legal_history.ensures c.args.moment))

pub returns-in-GetField : goal.returns-in-GetField
returns-in-GetField g c =
    let seat = g.D.Desk.seat c.args.desk.now in
    let s = state_of c.args.self.now in
    let whole = whole_of c.args.message.now in
    let hears : ToServer → Hearing = λ (r : ToServer). heard_message seat.seen.base.site s whole s.types (request_view r) in
    let old = show seat c.args.self.now in
    let new = show seat c.answer_field.new.self in
    let task = asked_field seat.seen.base.site c.in-GetField.req c.in-GetField.path (channel_at s.channels c.in-GetField.sid) in
    heeds_so old new c.args.moment (hears c.args.request.now) (asks task s.types) c.stopping-in-GetField.result (ap hears c.in-GetField.is)
    (heeds_as old new c.args.moment task c.answer_field.result c.stopping-in-GetField.result c.stopping-in-GetField.ensures (c.answer_field.ensures c.has_legal_history.ensures c.args.moment))

pub returns-in-Rpc : goal.returns-in-Rpc
returns-in-Rpc g c =
    let seat = g.D.Desk.seat c.args.desk.now in
    let s = state_of c.args.self.now in
    let whole = whole_of c.args.message.now in
    let hears : ToServer → Hearing = λ (r : ToServer). heard_message seat.seen.base.site s whole s.types (request_view r) in
    let old = show seat c.args.self.now in
    let new = show (g.D.Desk.seat c.answer_call.new.desk) c.answer_call.new.self in
    let task = asked_call seat.seen.base.site s c.in-Rpc.sid c.in-Rpc.req c.in-Rpc.sub (valued_view c.in-Rpc.argument) in
    heeds_so old new c.args.moment (hears c.args.request.now) (asks task s.types) c.stopping-in-Rpc.result (ap hears c.in-Rpc.is)
    (heeds_as old new c.args.moment task c.answer_call.result c.stopping-in-Rpc.result c.stopping-in-Rpc.ensures (c.answer_call.ensures c.args.moment))

pub answer_monitor-requires-clause-fits : goal.answer_monitor-requires-clause-fits
answer_monitor-requires-clause-fits g c =
    monitor_fits c.in-Monitor.sid c.in-Monitor.req c.in-Monitor.sub c.in-Monitor.request c.in-Monitor.count (subst (λ (r : ToServer). CanEach FitsField (request_fields (request_view r))) c.in-Monitor.is c.requires.fits)

pub returns-in-Monitor : goal.returns-in-Monitor
returns-in-Monitor g c =
    let seat = g.D.Desk.seat c.args.desk.now in
    let site = seat.seen.base.site in
    let s = state_of c.args.self.now in
    let whole = whole_of c.args.message.now in
    let hears : ToServer → Hearing = λ (r : ToServer). heard_message site s whole s.types (request_view r) in
    heeds_so (show seat c.args.self.now) (show (g.D.Desk.seat c.answer_monitor.new.desk) c.answer_monitor.new.self) c.args.moment (hears c.args.request.now)
    (heard_monitor site s s.types c.in-Monitor.sid c.in-Monitor.req c.in-Monitor.sub (valued_view c.in-Monitor.request) c.in-Monitor.count) c.answer_monitor.result (ap hears c.in-Monitor.is)
    (c.answer_monitor.ensures c.args.moment)
