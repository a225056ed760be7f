use Rattle.std.proofs.Common.{Ok, List, ℕ, sym, ◌∙◌, ap}
use Rattle.chan_table.specs.declared.ask.AskKind.TheVariants as kinds
use Rattle.srv_session.specs.Replies.{refused}
use Rattle.srv_session.specs.Tasks.{respond, called_for}
use Rattle.srv_session.specs.Views.{show}
use Rattle.srv_session.proofs.Rows.{as_task}
use Rattle.srv_session.proofs.session.Session.call.Goals as goal

pub returns-in-Ok : goal.returns-in-Ok
returns-in-Ok g c moment =
    let seat = g.D.Desk.seat c.args.desk.now in
    let site = seat.seen.base.site in
    as_task (show seat c.args.self.now) (show (g.D.Desk.seat c.call_for.new.desk) c.call_for.new.self) moment (called_for site c.args.req c.args.sub (Ok c.in-Ok.op)) _ c.call_for.result
    (ap (called_for site c.args.req c.args.sub) c.in-Ok.is) (c.call_for.ensures moment)

pub returns-in-Err : goal.returns-in-Err
returns-in-Err g c moment =
    let seat = g.D.Desk.seat c.args.desk.now in
    let site = seat.seen.base.site in
    as_task (show seat c.args.self.now) (show seat c.refuse_behind.new.self) moment (respond c.args.req c.args.sub (refused kinds.Rpc c.args.req c.args.sub c.call_refusal.result.now)) _ c.refuse_behind.result
    (ap (called_for site c.args.req c.args.sub) c.in-Err.is ∙ ap (λ (t : List ℕ). respond c.args.req c.args.sub (refused kinds.Rpc c.args.req c.args.sub t)) (sym c.call_refusal.ensures))
    (c.refuse_behind.ensures seat c.has_legal_history.ensures moment)
