use Rattle.std.proofs.Common.{◌<◌, refl, sym, ◌∙◌, ap, subst}
use Rattle.std.specs.FinMap.{get, len}
use Rattle.pva_messages.specs.Views.{valued_view}
use Rattle.chan_table.specs.Tables.{limit}
use Rattle.srv_session.specs.State.{State, channel_at}
use Rattle.srv_session.specs.Tasks.{beginning}
use Rattle.srv_session.specs.Views.{state_of, output_of, show}
use Rattle.srv_session.proofs.Beginning.{unknown_channel, may_begin, place_refused}
use Rattle.srv_session.proofs.Rows.{as_task, as_old}
use Rattle.srv_session.proofs.session.Session.begin.Goals as goal

pub returns-in_default : goal.returns-in_default
returns-in_default g c legal moment =
    let seat = g.D.Desk.seat c.args.desk.now in
    let s = state_of c.args.self.now in
    as_task (show seat c.args.self.now) (show seat c.refuse_channel.new.self) moment _ _ c.refuse_channel.result
    (unknown_channel seat.seen.base.site s c.args.kind c.args.req c.args.sub c.args.sid (valued_view c.args.request.now) (channel_at s.channels c.args.sid) (sym c.channel_at.ensures ∙ c.in_default.is))
    (c.refuse_channel.ensures seat legal moment)

pub begin_on-requires-clause-channel : goal.begin_on-requires-clause-channel
begin_on-requires-clause-channel g c = c.requires.site.channels c.args.sid c.in-Some.channel (sym c.channel_at.ensures ∙ c.in-Some.is)

pub returns-in-Ok : goal.returns-in-Ok
returns-in-Ok g c legal moment =
    let seat = g.D.Desk.seat c.args.desk.now in
    let s = state_of c.args.self.now in
    let state = c.make_room.ensures.state in
    let ready = (c.in-Ok.ensures {u = tt}).ready in
    let new = show seat c.begin_on.new.self in
    as_task (show seat c.args.self.now) new moment _ _ c.begin_on.result
    (may_begin seat.seen.base.site s c.args.kind c.args.req c.args.sub c.args.sid (valued_view c.args.request.now) (channel_at s.channels c.args.sid) c.in-Some.channel (sym c.channel_at.ensures ∙ c.in-Some.is)
    (sym (ap (λ (z : State). get z.requests c.args.req) state) ∙ ready.free)
    (subst (λ (z : State). len z.requests < limit) state ready.few))
    (as_old seat s (state_of c.make_room.new.self) (output_of c.args.self.now) (output_of c.make_room.new.self) new moment _ c.begin_on.result state c.make_room.ensures.output (c.begin_on.ensures legal moment))

pub returns-in-Err : goal.returns-in-Err
returns-in-Err g c legal moment =
    let seat = g.D.Desk.seat c.args.desk.now in
    let site = seat.seen.base.site in
    let s = state_of c.args.self.now in
    let v = valued_view c.args.request.now in
    let new = show seat c.refuse_place.new.self in
    as_old seat s (state_of c.make_room.new.self) (output_of c.args.self.now) (output_of c.make_room.new.self) new moment (beginning site s c.args.kind c.args.req c.args.sub c.args.sid v (channel_at s.channels c.args.sid))
    c.refuse_place.result c.make_room.ensures.state c.make_room.ensures.output
    (place_refused site s c.args.kind c.args.req c.args.sub c.args.sid v (channel_at s.channels c.args.sid) c.in-Some.channel (sym c.channel_at.ensures ∙ c.in-Some.is)
    c.make_room.new.self c.refuse_place.new.self seat legal moment c.in-Err.answer c.args.self.now.table c.refuse_place.result refl (c.in-Err.ensures {u = tt}).refused c.refuse_place.ensures)
