use Rattle.std.proofs.Common.{◌≡◌, ℕ, Option, Ok, Err, refl, sym, ◌∙◌, ap}
use Rattle.srv_session.specs.State.{State}
use Rattle.srv_session.specs.Tasks.{is_over, acknowledged, started_by}
use Rattle.srv_session.specs.Views.{state_of, output_of, show}
use Rattle.srv_session.specs.Watching.{with_steered}
use Rattle.srv_session.specs.declared.stop.SessionStop.TheVariants as stops
use Rattle.std.specs.FinMap.{insert}
use Rattle.mon_window.specs.declared.window.WindowFault.TheVariants as window_faults
use Rattle.srv_session.proofs.Ending.{request_ended, request_lives}
use Rattle.srv_session.proofs.Heeding.{heeds_so, not_heard}
use Rattle.srv_session.proofs.Monitoring.{too_much, within_range, no_change}
use Rattle.srv_session.proofs.session.Session.steer.Goals as goal

pub returns-in_default : goal.returns-in_default
returns-in_default g c ask here moment =
    let seat = g.D.Desk.seat c.args.desk.now in
    let s = state_of c.args.self.now in
    let same : c.window_of.result ≡ ask.window = c.window_of.ensures ask here in
    not_heard seat s s (output_of c.args.self.now) (output_of c.args.self.now) moment _ (stops.Window window_faults.OverRange) (Err (stops.Window window_faults.OverRange)) refl
    (too_much s.types c.args.req c.args.sub c.args.count ask (ap (λ (w : Option ℕ). is_over (acknowledged c.args.count w)) (sym same) ∙ sym (c.in_default.ensures).over)) c.has_legal_history.ensures refl refl

pub end_request-requires : goal.end_request-requires
end_request-requires g c = request_lives (g.D.Desk.seat c.args.desk.now).log (state_of c.args.self.now) c.args.req c.requires

pub returns-then-ends : goal.returns-then-ends
returns-then-ends g c ask here moment =
    let seat = g.D.Desk.seat c.args.desk.now in
    let s = state_of c.args.self.now in
    let same : c.window_of.result ≡ ask.window = c.window_of.ensures ask here in
    heeds_so (show seat c.args.self.now) (show (g.D.Desk.seat c.end_request.new.desk) c.end_request.new.self) moment _ _ (Ok tt)
    (within_range s.types c.args.req c.args.sub c.args.count ask _ (ap (λ (w : Option ℕ). is_over (acknowledged c.args.count w)) (sym same) ∙ sym (c.in-Ok.ensures {u = tt}).over) (sym c.ends.ensures ∙ c.if-ends.true))
    (request_ended seat (g.D.Desk.seat c.end_request.new.desk) moment s (state_of c.end_request.new.self) (output_of c.args.self.now) (output_of c.end_request.new.self) c.args.req c.end_request.ensures.calls
    c.end_request.ensures.state c.end_request.ensures.output)

pub returns : goal.returns
returns g c ask here moment =
    let seat = g.D.Desk.seat c.args.desk.now in
    let s = state_of c.args.self.now in
    let same : c.window_of.result ≡ ask.window = c.window_of.ensures ask here in
    let first = c.in-Ok.ensures {u = tt} in
    heeds_so (show seat c.args.self.now) (show seat c.set_monitor.new.self) moment _ _ (Ok tt)
    (within_range s.types c.args.req c.args.sub c.args.count ask _ (ap (λ (w : Option ℕ). is_over (acknowledged c.args.count w)) (sym same) ∙ sym first.over) (sym c.ends.ensures ∙ c.if-ends.false))
    (no_change seat moment s (state_of c.set_monitor.new.self) (output_of c.args.self.now) (output_of c.set_monitor.new.self) c.args.req c.args.sub c.args.count ask c.has_legal_history.ensures
    (c.set_monitor.ensures.state
    ∙ ap (λ o. let z : State = record s { requests = with_steered c.args.req c.args.sub c.in-Ok.window o s.requests } in z) here
    ∙ ap (λ (w : Option ℕ). let z : State = record s { requests = insert s.requests c.args.req (record ask { window = w; started = started_by c.args.sub ask.started }) } in z) (first.ok ∙ ap (acknowledged c.args.count) same))
    c.set_monitor.ensures.output)
