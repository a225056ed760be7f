use Rattle.std.proofs.Common.{ap, sym, ◌∙◌}
use Rattle.std.specs.Prelude.{option_map}
use Rattle.pva_messages.specs.Views.{valued_view}
use Rattle.srv_session.specs.Replies.{refused}
use Rattle.srv_session.specs.Tasks.{refuse, beginning_on}
use Rattle.srv_session.specs.Views.{show}
use Rattle.srv_session.proofs.Rows.{as_task}
use Rattle.srv_session.proofs.session.Session.begin_on.Goals as goal

pub begin_fit-requires-clause-fit : goal.begin_fit-requires-clause-fit
begin_fit-requires-clause-fit g c = sym c.unfit.ensures ∙ ap (option_map (λ t. t.now)) c.in-None.is

pub returns-in-Some : goal.returns-in-Some
returns-in-Some g c legal moment =
    let seat = g.D.Desk.seat c.args.desk.now in
    let v = valued_view c.args.request.now in
    as_task (show seat c.args.self.now) (show seat c.refuse.new.self) moment (refuse (refused c.args.kind c.args.req c.args.sub c.in-Some.text.now)) _ c.refuse.result
    (ap (beginning_on seat.seen.base.site c.args.kind c.args.req c.args.sub c.args.sid v c.args.channel) (sym c.unfit.ensures ∙ ap (option_map (λ t. t.now)) c.in-Some.is))
    (c.refuse.ensures seat legal moment)

pub returns-in-None : goal.returns-in-None
returns-in-None g c legal moment =
    let seat = g.D.Desk.seat c.args.desk.now in
    let v = valued_view c.args.request.now in
    as_task (show seat c.args.self.now) (show seat c.begin_fit.new.self) moment _ _ c.begin_fit.result
    (ap (beginning_on seat.seen.base.site c.args.kind c.args.req c.args.sub c.args.sid v c.args.channel) (sym c.unfit.ensures ∙ ap (option_map (λ t. t.now)) c.in-None.is))
    (c.begin_fit.ensures legal moment)
