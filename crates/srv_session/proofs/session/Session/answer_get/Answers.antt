use Rattle.std.proofs.Common.{cond, Bool, sym, ◌∙◌, ap}
use Rattle.chan_table.specs.declared.ask.AskKind.TheVariants as kinds
use Rattle.pva_messages.specs.Subcommands.{begins}
use Rattle.pva_messages.specs.Views.{valued_view}
use Rattle.srv_session.specs.State.{channel_at}
use Rattle.srv_session.specs.Tasks.{beginning, getting, found_for}
use Rattle.srv_session.specs.Views.{state_of, show}
use Rattle.srv_session.proofs.Rows.{as_task}
use Rattle.srv_session.proofs.session.Session.answer_get.Goals as goal

pub begin-requires-clause-fits : goal.begin-requires-clause-fits
begin-requires-clause-fits g c = c.requires.fits (sym c.begins.ensures ∙ c.if-begins.true)

pub returns-then-begins : goal.returns-then-begins
returns-then-begins g c moment =
    let seat = g.D.Desk.seat c.args.desk.now in
    let s = state_of c.args.self.now in
    let begun = beginning seat.seen.base.site s kinds.Get c.args.req c.args.sub c.args.sid (valued_view c.args.request.now) (channel_at s.channels c.args.sid) in
    let got = getting kinds.Get c.args.req c.args.sub (found_for s kinds.Get c.args.sid c.args.req) in
    as_task (show seat c.args.self.now) (show seat c.begin.new.self) moment begun (cond (begins c.args.sub) begun got) c.begin.result
    (ap (λ (b : Bool). cond b begun got) (sym c.begins.ensures ∙ c.if-begins.true)) (c.begin.ensures c.has_legal_history.ensures moment)

pub returns : goal.returns
returns g c moment =
    let seat = g.D.Desk.seat c.args.desk.now in
    let s = state_of c.args.self.now in
    let begun = beginning seat.seen.base.site s kinds.Get c.args.req c.args.sub c.args.sid (valued_view c.args.request.now) (channel_at s.channels c.args.sid) in
    let got = getting kinds.Get c.args.req c.args.sub (found_for s kinds.Get c.args.sid c.args.req) in
    as_task (show seat c.args.self.now) (show (g.D.Desk.seat c.get.new.desk) c.get.new.self) moment got (cond (begins c.args.sub) begun got) c.get.result
    (ap (λ (b : Bool). cond b begun got) (sym c.begins.ensures ∙ c.if-begins.false)) (c.get.ensures moment)
