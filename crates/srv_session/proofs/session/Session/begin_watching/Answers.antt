use Rattle.std.proofs.Common.{refl, sym, ◌∙◌, ap, subst}
use Rattle.std.specs.Option.{option_copied}
use Rattle.pvd_type.specs.Tree.{Tree}
use Rattle.chan_table.specs.declared.ask.AskKind.TheVariants as kinds
use Rattle.desk_api.specs.Types.{type_of, HoldsLeaves}
use Rattle.srv_session.specs.Tasks.{beginning_as, windowed}
use Rattle.srv_session.specs.Views.{state_of, show}
use Rattle.srv_session.proofs.Beginning.{asked_as}
use Rattle.srv_session.proofs.Heeding.{heeds_so}
use Rattle.srv_session.proofs.Monitoring.{fault_heard}
use Rattle.srv_session.proofs.session.Session.begin_watching.Goals as goal

pub begin_windowed-requires-clause-leaves : goal.begin_windowed-requires-clause-leaves
begin_windowed-requires-clause-leaves g c =
    subst (λ (t : Tree). HoldsLeaves t c.in-Ok.wanted.mask) c.type_on-ty.ensures (c.in-Ok.ensures {u = tt}).sound.holds

pub begin_windowed-requires-clause-size : goal.begin_windowed-requires-clause-size
begin_windowed-requires-clause-size g c = let sound = (c.in-Ok.ensures {u = tt}).sound in (sound.least, sound.most)

pub returns-in-Ok : goal.returns-in-Ok
returns-in-Ok g c moment =
    let seat = g.D.Desk.seat c.args.desk.now in
    let s = state_of c.args.self.now in
    let asked = asked_as kinds.Monitor c.type_on-ty.result.now (type_of seat.seen.base.site c.args.channel) c.root_for.result c.args.request.now (option_copied c.as_ref.result) refl c.root_for.ensures c.type_on-ty.ensures c.as_ref.ensures.value in
    heeds_so (show seat c.args.self.now) (show (g.D.Desk.seat c.begin_windowed.new.desk) c.begin_windowed.new.self) moment _ _ c.begin_windowed.result
    (ap (λ r. windowed s.types c.args.asked.count (beginning_as kinds.Monitor c.args.asked.req c.args.asked.sub c.args.asked.sid c.args.channel r)) (asked ∙ (c.in-Ok.ensures {u = tt}).exact))
    (c.begin_windowed.ensures moment)

pub returns-in-Err : goal.returns-in-Err
returns-in-Err g c moment =
    let seat = g.D.Desk.seat c.args.desk.now in
    let s = state_of c.args.self.now in
    let asked = asked_as kinds.Monitor c.type_on-ty.result.now (type_of seat.seen.base.site c.args.channel) c.root_for.result c.args.request.now (option_copied c.as_ref.result) refl c.root_for.ensures c.type_on-ty.ensures c.as_ref.ensures.value in
    heeds_so (show seat c.args.self.now) (show seat c.refuse_fault.new.self) moment _ _ c.stopping.result
    (ap (λ r. windowed s.types c.args.asked.count (beginning_as kinds.Monitor c.args.asked.req c.args.asked.sub c.args.asked.sid c.args.channel r)) asked)
    (fault_heard c.args.self.now c.refuse_fault.new.self seat c.has_legal_history.ensures moment c.args.asked.req c.args.asked.sub c.args.asked.sid c.args.asked.count c.args.channel c.in-Err.fault _ c.refuse_fault.result c.stopping.result c.stopping.ensures
    (c.in-Err.ensures {u = tt}).exact c.refuse_fault.ensures)
