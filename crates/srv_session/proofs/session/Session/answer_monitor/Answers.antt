use Rattle.std.proofs.Common.{cond, Bool, sym, ◌∙◌, ap}
use Rattle.chan_table.specs.declared.ask.AskKind.TheVariants as kinds
use Rattle.pva_messages.specs.Views.{valued_view}
use Rattle.srv_session.specs.State.{channel_at}
use Rattle.srv_session.specs.Tasks.{Hearing, asks, beginning, found_for, pass_over, steering, steering_found, windowed}
use Rattle.srv_session.specs.Views.{state_of, show}
use Rattle.srv_session.proofs.Finding.{is_here, is_on_it, not_here}
use Rattle.srv_session.proofs.Heeding.{heeds_as, heeds_so}
use Rattle.srv_session.proofs.session.Session.answer_monitor.Goals as goal

pub begin_monitor-requires-clause-fits : goal.begin_monitor-requires-clause-fits
begin_monitor-requires-clause-fits g c = c.requires.fits (sym c.begins.ensures ∙ c.if-begins.true)

pub returns-then-begins : goal.returns-then-begins
returns-then-begins g c moment =
    let seat = g.D.Desk.seat c.args.desk.now in
    let s = state_of c.args.self.now in
    let begun : Hearing = windowed s.types c.args.count (beginning seat.seen.base.site s kinds.Monitor c.args.req c.args.sub c.args.sid (valued_view c.args.request.now) (channel_at s.channels c.args.sid)) in
    let goes_on : Hearing = steering_found s.types c.args.req c.args.sub c.args.count (found_for s kinds.Monitor c.args.sid c.args.req) in
    heeds_so (show seat c.args.self.now) (show (g.D.Desk.seat c.begin_monitor.new.desk) c.begin_monitor.new.self) moment _ begun c.begin_monitor.result
    (ap (λ (b : Bool). cond b begun goes_on) (sym c.begins.ensures ∙ c.if-begins.true)) (c.begin_monitor.ensures moment)

pub returns-in-Ok : goal.returns-in-Ok
returns-in-Ok g c moment =
    let seat = g.D.Desk.seat c.args.desk.now in
    let s = state_of c.args.self.now in
    let h = is_here s kinds.Monitor c.args.sid c.args.req c.in-Ok._found (c.in-Ok.ensures {u = tt}) in
    let begun : Hearing = windowed s.types c.args.count (beginning seat.seen.base.site s kinds.Monitor c.args.req c.args.sub c.args.sid (valued_view c.args.request.now) (channel_at s.channels c.args.sid)) in
    let goes_on : Hearing = steering_found s.types c.args.req c.args.sub c.args.count (found_for s kinds.Monitor c.args.sid c.args.req) in
    heeds_so (show seat c.args.self.now) (show (g.D.Desk.seat c.steer.new.desk) c.steer.new.self) moment _ (steering s.types c.args.req c.args.sub c.args.count h.ask) c.steer.result
    (ap (λ (b : Bool). cond b begun goes_on) (sym c.begins.ensures ∙ c.if-begins.false) ∙ ap (steering_found s.types c.args.req c.args.sub c.args.count) h.phase)
    (c.steer.ensures h.ask (is_on_it s c.args.sid c.args.req h.ask c.in-Ok._found.channel h.here).there moment)

pub returns-in-Err : goal.returns-in-Err
returns-in-Err g c moment =
    let seat = g.D.Desk.seat c.args.desk.now in
    let s = state_of c.args.self.now in
    let begun : Hearing = windowed s.types c.args.count (beginning seat.seen.base.site s kinds.Monitor c.args.req c.args.sub c.args.sid (valued_view c.args.request.now) (channel_at s.channels c.args.sid)) in
    let goes_on : Hearing = steering_found s.types c.args.req c.args.sub c.args.count (found_for s kinds.Monitor c.args.sid c.args.req) in
    heeds_so (show seat c.args.self.now) (show seat c.pass_over.new.self) moment _ (asks pass_over s.types) c.stopping.result
    (ap (λ (b : Bool). cond b begun goes_on) (sym c.begins.ensures ∙ c.if-begins.false)
    ∙ ap (steering_found s.types c.args.req c.args.sub c.args.count) (not_here s kinds.Monitor c.args.sid c.args.req c.in-Err._text (c.in-Err.ensures {u = tt})))
    (heeds_as (show seat c.args.self.now) (show seat c.pass_over.new.self) moment pass_over c.pass_over.result c.stopping.result c.stopping.ensures (c.pass_over.ensures seat c.has_legal_history.ensures moment))
