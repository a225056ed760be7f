use Rattle.std.proofs.Common.{cond, Bool, sym, ◌∙◌, ap}
use Rattle.chan_table.specs.declared.ask.AskKind.TheVariants as kinds
use Rattle.pva_messages.specs.Subcommands.{begins}
use Rattle.pva_messages.specs.Views.{valued_view}
use Rattle.srv_session.specs.State.{channel_at}
use Rattle.srv_session.specs.Replies.{refused}
use Rattle.srv_session.specs.Tasks.{refuse, beginning, calling, called_for, found_for}
use Rattle.srv_session.specs.Views.{state_of, show}
use Rattle.srv_session.proofs.Finding.{is_here, not_here}
use Rattle.srv_session.proofs.Rows.{as_task}
use Rattle.srv_session.proofs.session.Session.answer_call.Goals as goal

pub returns-then-begins : goal.returns-then-begins
returns-then-begins g c moment =
    let seat = g.D.Desk.seat c.args.desk.now in
    let s = state_of c.args.self.now in
    let v = valued_view c.args.argument.now in
    let begun = beginning seat.seen.base.site s kinds.Rpc c.args.req c.args.sub c.args.sid v (channel_at s.channels c.args.sid) in
    let called = calling seat.seen.base.site c.args.req c.args.sub v (found_for s kinds.Rpc c.args.sid c.args.req) in
    as_task (show seat c.args.self.now) (show seat c.begin.new.self) moment begun (cond (begins c.args.sub) begun called) c.begin.result
    (ap (λ (b : Bool). cond b begun called) (sym c.begins.ensures ∙ c.if-begins.true)) (c.begin.ensures c.has_legal_history.ensures moment)

pub returns-in-Ok : goal.returns-in-Ok
returns-in-Ok g c moment =
    let seat = g.D.Desk.seat c.args.desk.now in
    let site = seat.seen.base.site in
    let s = state_of c.args.self.now in
    let v = valued_view c.args.argument.now in
    let begun = beginning site s kinds.Rpc c.args.req c.args.sub c.args.sid v (channel_at s.channels c.args.sid) in
    let called = calling site c.args.req c.args.sub v (found_for s kinds.Rpc c.args.sid c.args.req) in
    let h = is_here s kinds.Rpc c.args.sid c.args.req c.in-Ok._found (c.in-Ok.ensures {u = tt}) in
    as_task (show seat c.args.self.now) (show (g.D.Desk.seat c.call.new.desk) c.call.new.self) moment (called_for site c.args.req c.args.sub c.operation_in.result) (cond (begins c.args.sub) begun called) c.call.result
    (ap (λ (b : Bool). cond b begun called) (sym c.begins.ensures ∙ c.if-begins.false)
    ∙ ap (calling site c.args.req c.args.sub v) h.phase ∙ ap (called_for site c.args.req c.args.sub) (sym c.operation_in.ensures))
    (c.call.ensures moment)

pub returns-in-Err : goal.returns-in-Err
returns-in-Err g c moment =
    let seat = g.D.Desk.seat c.args.desk.now in
    let site = seat.seen.base.site in
    let s = state_of c.args.self.now in
    let v = valued_view c.args.argument.now in
    let begun = beginning site s kinds.Rpc c.args.req c.args.sub c.args.sid v (channel_at s.channels c.args.sid) in
    let called = calling site c.args.req c.args.sub v (found_for s kinds.Rpc c.args.sid c.args.req) in
    as_task (show seat c.args.self.now) (show seat c.refuse.new.self) moment (refuse (refused kinds.Rpc c.args.req c.args.sub c.in-Err.text.now)) (cond (begins c.args.sub) begun called) c.refuse.result
    (ap (λ (b : Bool). cond b begun called) (sym c.begins.ensures ∙ c.if-begins.false)
    ∙ ap (calling site c.args.req c.args.sub v) (not_here s kinds.Rpc c.args.sid c.args.req c.in-Err.text (c.in-Err.ensures {u = tt})))
    (c.refuse.ensures seat c.has_legal_history.ensures moment)
