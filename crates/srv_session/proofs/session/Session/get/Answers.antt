use Rattle.std.proofs.Common.{ap}
use Rattle.srv_session.specs.Tasks.{getting}
use Rattle.srv_session.specs.Views.{state_of, show}
use Rattle.srv_session.proofs.Finding.{is_here, there, not_here}
use Rattle.srv_session.proofs.Monitoring.{part_call}
use Rattle.srv_session.proofs.Rows.{as_task}
use Rattle.srv_session.proofs.session.Session.get.Goals as goal

pub get_from-requires-clause-there : goal.get_from-requires-clause-there
get_from-requires-clause-there g c =
    there (state_of c.args.self.now) c.args.kind c.args.sid c.args.req c.in-Ok.found (part_call c.args.kind c.args.sub c.requires.kind) (c.in-Ok.ensures {u = tt})

pub returns-in-Ok : goal.returns-in-Ok
returns-in-Ok g c moment =
    let s = state_of c.args.self.now in
    let h = is_here s c.args.kind c.args.sid c.args.req c.in-Ok.found (c.in-Ok.ensures {u = tt}) in
    as_task (show (g.D.Desk.seat c.args.desk.now) c.args.self.now) (show (g.D.Desk.seat c.get_from.new.desk) c.get_from.new.self) moment _ _ c.get_from.result
    (ap (getting c.args.kind c.args.req c.args.sub) h.phase) (c.get_from.ensures h.ask h.here h.atomic moment)

pub returns-in-Err : goal.returns-in-Err
returns-in-Err g c moment =
    let s = state_of c.args.self.now in
    let seat = g.D.Desk.seat c.args.desk.now in
    as_task (show seat c.args.self.now) (show seat c.refuse.new.self) moment _ _ c.refuse.result
    (ap (getting c.args.kind c.args.req c.args.sub) (not_here s c.args.kind c.args.sid c.args.req c.in-Err.text (c.in-Err.ensures {u = tt})))
    (c.refuse.ensures seat c.has_legal_history.ensures moment)
