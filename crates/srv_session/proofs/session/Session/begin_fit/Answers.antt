use Rattle.std.proofs.Common.{ap, sym, ◌∙◌}
use Rattle.pva_messages.specs.Views.{valued_view}
use Rattle.desk_api.specs.Sites.{has_values}
use Rattle.desk_api.specs.Types.{type_of}
use Rattle.srv_session.specs.Replies.{is_call}
use Rattle.srv_session.specs.Tasks.{begin, beginning_as, nothing_wanted}
use Rattle.srv_session.specs.Views.{show}
use Rattle.srv_session.proofs.Beginning.{fit_valued, call_wanted}
use Rattle.srv_session.proofs.Rows.{as_task}
use Rattle.srv_session.proofs.session.Session.begin_fit.Goals as goal

pub begin_valued-requires-clause-valued : goal.begin_valued-requires-clause-valued
begin_valued-requires-clause-valued g c =
    fit_valued (is_call c.args.kind) (has_values c.args.channel) c.requires.fit (sym c.is_call.ensures ∙ c.if-is_call.false)

pub returns-then-is_call : goal.returns-then-is_call
returns-then-is_call g c legal moment =
    let seat = g.D.Desk.seat c.args.desk.now in
    as_task (show seat c.args.self.now) (show seat c.begin_call.new.self) moment (begin c.args.kind c.args.req c.args.sub c.args.sid c.args.channel nothing_wanted) _ c.begin_call.result
    (ap (beginning_as c.args.kind c.args.req c.args.sub c.args.sid c.args.channel)
    (call_wanted c.args.kind (type_of seat.seen.base.site c.args.channel) (valued_view c.args.request.now) (sym c.is_call.ensures ∙ c.if-is_call.true)))
    (c.begin_call.ensures seat c.args.channel legal moment)
