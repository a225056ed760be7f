use Rattle.std.proofs.Common.{None, refl, sym, ◌∙◌}
use Rattle.std.specs.Prelude.{codes}
use Rattle.pva_messages.specs.Replies as reply
use Rattle.pva_messages.specs.Views.{valued_view}
use Rattle.srv_session.specs.Replies.{said, error}
use Rattle.srv_session.specs.Tasks.{validate, refuse, validated_by}
use Rattle.srv_session.specs.Views.{state_of, output_of, show}
use Rattle.srv_session.proofs.Rows.{on_ok, says_this, said_one, gave_up, as_task}
use Rattle.srv_session.proofs.Validating.{by_anonymous, by_ca, by_other}
use Rattle.srv_session.proofs.Slots.{still, on_err}
use Rattle.srv_session.proofs.session.Session.validate.Goals as goal

pub returns-in_err-host-in-ca : goal.returns-in_err-host-in-ca
returns-in_err-host-in-ca c seat legal moment =
    gave_up seat moment (state_of c.args.self.now) (state_of c.args.self.now) (output_of c.args.self.now) (output_of c.args.self.now)
    (validated_by c.args.buffer c.args.registry c.args.method.now (valued_view c.args.argument.now)) c.from_residual-in_err-host-in-ca.result legal c.from_residual-in_err-host-in-ca.ensures.0 refl refl

pub returns-in-anonymous : goal.returns-in-anonymous
returns-in-anonymous c seat legal moment =
    as_task (show seat c.args.self.now) (show seat c.accept.new.self) moment (validate c.args.buffer c.args.registry None None) _ c.accept.result
    (by_anonymous c.args.buffer c.args.registry c.args.method.now (valued_view c.args.argument.now) (sym c.as_str.ensures.text ∙ c.in-anonymous.is))
    (c.accept.ensures seat legal moment)

pub returns-in_ok-host-in-ca : goal.returns-in_ok-host-in-ca
returns-in_ok-host-in-ca c seat legal moment =
    as_task (show seat c.args.self.now) (show seat c.accept-in-ca.new.self) moment (validate c.args.buffer c.args.registry c.in_ok-user-in-ca.user c.in_ok-host-in-ca.host) _ c.accept-in-ca.result
    (by_ca c.args.buffer c.args.registry c.args.method.now (valued_view c.args.argument.now) (sym c.as_str.ensures.text ∙ c.in-ca.is)
    ∙ (λ i. validate c.args.buffer c.args.registry (sym (c.in_ok-user-in-ca.ensures {u = tt}) i) (sym (c.in_ok-host-in-ca.ensures {u = tt}) i)))
    (c.accept-in-ca.ensures seat legal moment)

pub returns-in_default : goal.returns-in_default
returns-in_default c seat legal moment =
    let refusal = reply.validated (error (codes "authentication not offered")) in
    as_task (show seat c.args.self.now) (show seat c.say_validated.new.self) moment (refuse refusal) _ c.say_validated.result
    (by_other c.args.buffer c.args.registry c.args.method.now (valued_view c.args.argument.now) (λ e. c.in_default.not-anonymous (c.as_str.ensures.text ∙ e)) (λ e. c.in_default.not-ca (c.as_str.ensures.text ∙ e)))
    (said_one seat moment (state_of c.args.self.now) (state_of c.say_validated.new.self) (output_of c.args.self.now) (output_of c.say_validated.new.self) (refuse refusal) c.say_validated.result (said refusal) legal
    (says_this _) (on_ok c.say_validated.result c.say_validated.ensures.state) c.say_validated.ensures.ok c.say_validated.ensures.err (on_err c.say_validated.result (still c.say_validated.ensures.state)))

pub returns-in_err-user-in-ca : goal.returns-in_err-user-in-ca
returns-in_err-user-in-ca c seat legal moment =
    gave_up seat moment (state_of c.args.self.now) (state_of c.args.self.now) (output_of c.args.self.now) (output_of c.args.self.now)
    (validated_by c.args.buffer c.args.registry c.args.method.now (valued_view c.args.argument.now)) c.from_residual.result legal c.from_residual.ensures.0 refl refl
