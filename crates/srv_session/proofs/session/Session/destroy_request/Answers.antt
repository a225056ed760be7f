use Rattle.std.proofs.Common.{cond, Bool, Ok, refl, sym, ◌∙◌, ap}
use Rattle.srv_session.specs.Tasks.{asks, destroy_request, pass_over}
use Rattle.srv_session.specs.Views.{state_of, output_of, show}
use Rattle.srv_session.proofs.Ending.{request_ended, request_lives}
use Rattle.srv_session.proofs.Heeding.{heeds_as, heeds_so}
use Rattle.srv_session.proofs.Rows.{says_this, nothing_said}
use Rattle.srv_session.proofs.session.Session.destroy_request.Goals as goal

pub end_request-requires : goal.end_request-requires
end_request-requires g c = request_lives (g.D.Desk.seat c.args.desk.now).log (state_of c.args.self.now) c.args.req c.requires

pub returns-then-is_on : goal.returns-then-is_on
returns-then-is_on g c moment =
    let seat = g.D.Desk.seat c.args.desk.now in
    let s = state_of c.args.self.now in
    let there = g.D.Desk.seat c.end_request.new.desk in
    heeds_so (show seat c.args.self.now) (show there c.end_request.new.self) moment _ (asks (destroy_request c.args.req) s.types) (Ok tt)
    (ap (λ (b : Bool). asks (cond b (destroy_request c.args.req) pass_over) s.types) (sym c.is_on.ensures ∙ c.if-is_on.true))
    (request_ended seat there moment s (state_of c.end_request.new.self) (output_of c.args.self.now) (output_of c.end_request.new.self) c.args.req c.end_request.ensures.calls c.end_request.ensures.state c.end_request.ensures.output)

pub returns-else-is_on : goal.returns-else-is_on
returns-else-is_on g c moment =
    let seat = g.D.Desk.seat c.args.desk.now in
    let s = state_of c.args.self.now in
    let old = show seat c.args.self.now in
    heeds_so old old moment _ (asks pass_over s.types) (Ok tt)
    (ap (λ (b : Bool). asks (cond b (destroy_request c.args.req) pass_over) s.types) (sym c.is_on.ensures ∙ c.if-is_on.false))
    (heeds_as old old moment pass_over (Ok tt) (Ok tt) refl (nothing_said seat moment s s (output_of c.args.self.now) (output_of c.args.self.now) pass_over c.has_legal_history.ensures (says_this _) refl refl))
