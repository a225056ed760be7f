use Rattle.std.proofs.Common.{Bool, cond, ℕ, Option, Err, refl, sym, ◌∙◌, ap}
use Rattle.srv_session.specs.Tasks.{Hearing, asks, over_range, subscribe}
use Rattle.srv_session.specs.Views.{state_of, output_of, show}
use Rattle.srv_session.specs.declared.stop.SessionStop.TheVariants as stops
use Rattle.srv_session.proofs.Heeding.{heeds_so, not_heard}
use Rattle.srv_session.proofs.session.Session.begin_windowed.Goals as goal

pub returns-in-Ok : goal.returns-in-Ok
returns-in-Ok g c moment =
    let seat = g.D.Desk.seat c.args.desk.now in
    let s = state_of c.args.self.now in
    let first = c.in-Ok.ensures {u = tt} in
    let subscribes : Option ℕ → Hearing = λ (w : Option ℕ). asks (subscribe c.args.asked.req c.args.asked.sub c.args.asked.sid c.args.channel c.args.wanted w) s.types in
    heeds_so (show seat c.args.self.now) (show (g.D.Desk.seat c.subscribe.new.desk) c.subscribe.new.self) moment _ (subscribes c.in-Ok.window) c.subscribe.result
    (ap (λ (b : Bool). cond b over_range (subscribes c.args.asked.count)) (sym first.over) ∙ ap subscribes (sym first.ok))
    (c.subscribe.ensures moment)

pub returns-in-Err : goal.returns-in-Err
returns-in-Err g c moment =
    let seat = g.D.Desk.seat c.args.desk.now in
    let s = state_of c.args.self.now in
    let first = c.in-Err.ensures {u = tt} in
    let goes_on : Hearing = asks (subscribe c.args.asked.req c.args.asked.sub c.args.asked.sid c.args.channel c.args.wanted c.args.asked.count) s.types in
    not_heard seat s s (output_of c.args.self.now) (output_of c.args.self.now) moment _ (stops.Window c.in-Err.fault) (Err (stops.Window c.in-Err.fault)) refl
    (ap (λ (b : Bool). cond b over_range goes_on) (sym first.over)) c.has_legal_history.ensures refl refl
