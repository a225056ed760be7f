use Rattle.std.proofs.Common.{◌<◌, refl, sym, ◌∙◌, ap, subst}
use Rattle.std.specs.Prelude.{codes}
use Rattle.std.specs.FinMap.{get, len}
use Rattle.pva_messages.specs.Views.{valued_view}
use Rattle.chan_table.specs.Tables.{limit}
use Rattle.chan_table.specs.declared.ask.AskKind.TheVariants as kinds
use Rattle.srv_session.specs.State.{State, channel_at}
use Rattle.srv_session.specs.Replies.{refused}
use Rattle.srv_session.specs.Tasks.{Task, asks, refuse, beginning, beginning_on, unfit, windowed}
use Rattle.srv_session.specs.Views.{state_of, output_of, show}
use Rattle.srv_session.proofs.Beginning.{unknown_channel, may_begin}
use Rattle.srv_session.proofs.Heeding.{heeds_as, heeds_so}
use Rattle.srv_session.proofs.Monitoring.{heeds_old, place_heard}
use Rattle.srv_session.proofs.session.Session.begin_monitor.Goals as goal

pub returns-in_default : goal.returns-in_default
returns-in_default g c moment =
    let seat = g.D.Desk.seat c.args.desk.now in
    let s = state_of c.args.self.now in
    let old = show seat c.args.self.now in
    let new = show seat c.refuse_channel.new.self in
    let task = refuse (refused kinds.Monitor c.args.asked.req c.args.asked.sub (codes "unknown channel")) in
    heeds_so old new moment _ (asks task s.types) c.stopping.result
    (ap (windowed s.types c.args.asked.count)
    (unknown_channel seat.seen.base.site s kinds.Monitor c.args.asked.req c.args.asked.sub c.args.asked.sid (valued_view c.args.request.now) (channel_at s.channels c.args.asked.sid) (sym c.channel_at.ensures ∙ c.in_default.is)))
    (heeds_as old new moment task c.refuse_channel.result c.stopping.result c.stopping.ensures (c.refuse_channel.ensures seat c.has_legal_history.ensures moment))

pub begin_monitor_on-requires-clause-channel : goal.begin_monitor_on-requires-clause-channel
begin_monitor_on-requires-clause-channel g c = c.requires.site.channels c.args.asked.sid c.in-Some.channel (sym c.channel_at.ensures ∙ c.in-Some.is)

pub returns-in-Ok : goal.returns-in-Ok
returns-in-Ok g c moment =
    let seat = g.D.Desk.seat c.args.desk.now in
    let s = state_of c.args.self.now in
    let m = state_of c.make_room.new.self in
    let state = c.make_room.ensures.state in
    let ready = (c.in-Ok.ensures {u = tt}).ready in
    let new = show (g.D.Desk.seat c.begin_monitor_on.new.desk) c.begin_monitor_on.new.self in
    let task : Task = beginning_on seat.seen.base.site kinds.Monitor c.args.asked.req c.args.asked.sub c.args.asked.sid (valued_view c.args.request.now) c.in-Some.channel (unfit kinds.Monitor c.in-Some.channel) in
    heeds_so (show seat c.args.self.now) new moment _ (windowed s.types c.args.asked.count task) c.begin_monitor_on.result
    (ap (windowed s.types c.args.asked.count)
    (may_begin seat.seen.base.site s kinds.Monitor c.args.asked.req c.args.asked.sub c.args.asked.sid (valued_view c.args.request.now) (channel_at s.channels c.args.asked.sid) c.in-Some.channel (sym c.channel_at.ensures ∙ c.in-Some.is)
    (sym (ap (λ (z : State). get z.requests c.args.asked.req) state) ∙ ready.free)
    (subst (λ (z : State). len z.requests < limit) state ready.few)))
    (heeds_old seat s m (output_of c.args.self.now) (output_of c.make_room.new.self) new moment (windowed s.types c.args.asked.count task) c.begin_monitor_on.result state c.make_room.ensures.output
    (heeds_so (show seat c.make_room.new.self) new moment (windowed s.types c.args.asked.count task) (windowed m.types c.args.asked.count task) c.begin_monitor_on.result
    (ap (λ (z : State). windowed z.types c.args.asked.count task) (sym state)) (c.begin_monitor_on.ensures moment)))

pub returns-in-Err : goal.returns-in-Err
returns-in-Err g c moment =
    let seat = g.D.Desk.seat c.args.desk.now in
    let s = state_of c.args.self.now in
    let m = state_of c.make_room.new.self in
    let state = c.make_room.ensures.state in
    let new = show seat c.refuse_place.new.self in
    let task : Task = beginning seat.seen.base.site s kinds.Monitor c.args.asked.req c.args.asked.sub c.args.asked.sid (valued_view c.args.request.now) (channel_at s.channels c.args.asked.sid) in
    heeds_old seat s m (output_of c.args.self.now) (output_of c.make_room.new.self) new moment (windowed s.types c.args.asked.count task) c.stopping-in-Err.result state c.make_room.ensures.output
    (heeds_so (show seat c.make_room.new.self) new moment (windowed s.types c.args.asked.count task) (windowed m.types c.args.asked.count task) c.stopping-in-Err.result
    (ap (λ (z : State). windowed z.types c.args.asked.count task) (sym state))
    (place_heard c.make_room.new.self c.refuse_place.new.self seat c.has_legal_history.ensures moment c.args.asked.req c.args.asked.sub c.args.asked.sid c.args.asked.count seat.seen.base.site s (valued_view c.args.request.now)
    (channel_at s.channels c.args.asked.sid) c.in-Some.channel (sym c.channel_at.ensures ∙ c.in-Some.is) c.in-Err.answer c.args.self.now.table c.refuse_place.result c.stopping-in-Err.result c.stopping-in-Err.ensures refl
    (c.in-Err.ensures {u = tt}).refused c.refuse_place.ensures))
