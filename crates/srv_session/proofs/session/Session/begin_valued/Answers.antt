use Rattle.std.proofs.Common.{◌∙◌, ap}
use Rattle.std.specs.Option.{option_copied}
use Rattle.desk_api.specs.Types.{type_of}
use Rattle.srv_session.specs.Tasks.{begin, beginning_as}
use Rattle.srv_session.specs.Views.{show}
use Rattle.srv_session.proofs.Beginning.{asked_as, fault_refused}
use Rattle.srv_session.proofs.Rows.{as_task}
use Rattle.srv_session.proofs.session.Session.begin_valued.Goals as goal

pub returns-in-Ok : goal.returns-in-Ok
returns-in-Ok g c legal moment =
    let seat = g.D.Desk.seat c.args.desk.now in
    let asked = asked_as c.args.kind c.type_on-ty.result.now (type_of seat.seen.base.site c.args.channel) c.root_for.result c.args.request.now (option_copied c.as_ref.result) c.requires.call c.root_for.ensures c.type_on-ty.ensures c.as_ref.ensures.value in
    as_task (show seat c.args.self.now) (show seat c.begin_as.new.self) moment (begin c.args.kind c.args.req c.args.sub c.args.sid c.args.channel c.in-Ok.wanted) _ c.begin_as.result
    (ap (beginning_as c.args.kind c.args.req c.args.sub c.args.sid c.args.channel) (asked ∙ (c.in-Ok.ensures {u = tt}).exact))
    (c.begin_as.ensures seat c.args.channel c.type_on-ty.ensures legal moment)

pub returns-in-Err : goal.returns-in-Err
returns-in-Err g c legal moment =
    let seat = g.D.Desk.seat c.args.desk.now in
    let asked = asked_as c.args.kind c.type_on-ty.result.now (type_of seat.seen.base.site c.args.channel) c.root_for.result c.args.request.now (option_copied c.as_ref.result) c.requires.call c.root_for.ensures c.type_on-ty.ensures c.as_ref.ensures.value in
    as_task (show seat c.args.self.now) (show seat c.refuse_fault.new.self) moment _ _ c.refuse_fault.result (ap (beginning_as c.args.kind c.args.req c.args.sub c.args.sid c.args.channel) asked)
    (fault_refused c.args.self.now c.refuse_fault.new.self seat legal moment c.args.kind c.args.req c.args.sub c.args.sid c.args.channel c.in-Err.fault _ c.refuse_fault.result
    (c.in-Err.ensures {u = tt}).exact c.refuse_fault.ensures)
