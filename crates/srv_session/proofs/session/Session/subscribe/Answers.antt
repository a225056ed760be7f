use Rattle.std.proofs.Common.{◌≡◌, refl, sym, ◌∙◌, ap}
use Rattle.std.specs.FinMap.{insert}
use Rattle.desk_api.specs.Types.{type_of}
use Rattle.desk_api.specs.declared.history.Base.{Base}
use Rattle.srv_session.specs.State.{State}
use Rattle.srv_session.specs.Rows.{monitor_of}
use Rattle.srv_session.specs.Views.{state_of, output_of}
use Rattle.srv_session.proofs.Monitoring.{no_room, monitor_begun_by, monitor_refused}
use Rattle.srv_session.proofs.session.Session.subscribe.Goals as goal

pub returns-in_default : goal.returns-in_default
returns-in_default g c moment =
    no_room (g.D.Desk.seat c.args.desk.now) moment (state_of c.args.self.now) (output_of c.args.self.now) c.args.asked.req c.args.asked.sub c.args.asked.sid c.args.channel c.args.wanted c.args.window
    (state_of c.make_monitor_room.new.self) (output_of c.make_monitor_room.new.self) c.make_monitor_room.ensures.state c.make_monitor_room.ensures.output c.has_legal_history.ensures

pub returns-in-Ok-subscribe : goal.returns-in-Ok-subscribe
returns-in-Ok-subscribe g c moment =
    monitor_begun_by (g.D.Desk.seat c.args.desk.now) moment (state_of c.args.self.now) (output_of c.args.self.now) c.args.asked.req c.args.asked.sub c.args.asked.sid c.args.channel c.args.wanted c.args.window
    (g.D.Desk.seat c.subscribe.new.self) (state_of c.say_begun.new.self) (output_of c.say_begun.new.self) c.in-Ok-subscribe.living (c.in-Ok-subscribe.ensures {u = tt}).calls (state_of c.add_monitor.new.self) (output_of c.add_monitor.new.self)
    c.type_on.result.now
    (c.add_monitor.ensures.state
    ∙ ap (λ (z : State). let y : State = record z { requests = insert z.requests c.args.asked.req (monitor_of c.args.asked.sid c.args.wanted c.in-Ok-subscribe.living.slot c.args.window) } in y) c.make_monitor_room.ensures.state)
    (c.add_monitor.ensures.output ∙ c.make_monitor_room.ensures.output) (c.type_on.ensures ∙ ap (λ (b : Base). type_of b.site c.args.channel) c.subscribe.ensures.base) c.say_begun.ensures.state
    c.say_begun.result c.stopping.result c.stopping.ensures c.say_begun.ensures.ok c.say_begun.ensures.err

pub returns-in-Err : goal.returns-in-Err
returns-in-Err g c moment =
    monitor_refused (g.D.Desk.seat c.args.desk.now) moment (state_of c.args.self.now) (output_of c.args.self.now) c.args.asked.req c.args.asked.sub c.args.asked.sid c.args.channel c.args.wanted c.args.window
    (g.D.Desk.seat c.subscribe.new.self) c.make_monitor_room.new.self c.refuse_subscription.new.self c.in-Err.answer (c.in-Err.ensures {u = tt}).calls c.make_monitor_room.ensures.state c.make_monitor_room.ensures.output
    (c.refuse_subscription.ensures.state ∙ c.make_monitor_room.ensures.state) c.refuse_subscription.result c.stopping-in-Err.result c.stopping-in-Err.ensures c.refuse_subscription.ensures.refuses
