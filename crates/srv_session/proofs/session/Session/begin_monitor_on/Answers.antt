use Rattle.std.proofs.Common.{refl, sym, ◌∙◌, ap}
use Rattle.std.specs.Prelude.{option_map}
use Rattle.pva_messages.specs.Views.{valued_view}
use Rattle.chan_table.specs.declared.ask.AskKind.TheVariants as kinds
use Rattle.desk_api.specs.Sites.{has_values}
use Rattle.srv_session.specs.Replies.{refused}
use Rattle.srv_session.specs.Tasks.{asks, beginning_on, refuse, windowed}
use Rattle.srv_session.specs.Views.{state_of, show}
use Rattle.srv_session.proofs.Beginning.{fit_valued}
use Rattle.srv_session.proofs.Heeding.{heeds_as, heeds_so}
use Rattle.srv_session.proofs.session.Session.begin_monitor_on.Goals as goal

pub begin_watching-requires-clause-valued : goal.begin_watching-requires-clause-valued
begin_watching-requires-clause-valued g c = fit_valued _ (has_values c.args.channel) (sym c.unfit.ensures ∙ ap (option_map (λ t. t.now)) c.in-None.is) refl

pub returns-in-Some : goal.returns-in-Some
returns-in-Some g c moment =
    let seat = g.D.Desk.seat c.args.desk.now in
    let s = state_of c.args.self.now in
    let old = show seat c.args.self.now in
    let new = show seat c.refuse.new.self in
    let task = refuse (refused kinds.Monitor c.args.asked.req c.args.asked.sub c.in-Some.text.now) in
    heeds_so old new moment _ (asks task s.types) c.stopping.result
    (ap (λ o. windowed s.types c.args.asked.count (beginning_on seat.seen.base.site kinds.Monitor c.args.asked.req c.args.asked.sub c.args.asked.sid (valued_view c.args.request.now) c.args.channel o))
    (sym c.unfit.ensures ∙ ap (option_map (λ t. t.now)) c.in-Some.is))
    (heeds_as old new moment task c.refuse.result c.stopping.result c.stopping.ensures (c.refuse.ensures seat c.has_legal_history.ensures moment))

pub returns-in-None : goal.returns-in-None
returns-in-None g c moment =
    let seat = g.D.Desk.seat c.args.desk.now in
    let s = state_of c.args.self.now in
    heeds_so (show seat c.args.self.now) (show (g.D.Desk.seat c.begin_watching.new.desk) c.begin_watching.new.self) moment _ _ c.begin_watching.result
    (ap (λ o. windowed s.types c.args.asked.count (beginning_on seat.seen.base.site kinds.Monitor c.args.asked.req c.args.asked.sub c.args.asked.sid (valued_view c.args.request.now) c.args.channel o))
    (sym c.unfit.ensures ∙ ap (option_map (λ t. t.now)) c.in-None.is))
    (c.begin_watching.ensures moment)
