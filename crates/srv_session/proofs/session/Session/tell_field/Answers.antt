use Rattle.std.proofs.Common.{List, ℕ, sym, ◌∙◌, ap}
use Rattle.std.specs.Prelude.{codes}
use Rattle.pvd_request.specs.Requests.{part_at}
use Rattle.srv_session.specs.Replies.{said, field_told, field_refused}
use Rattle.srv_session.specs.Tasks.{tell, refuse, told_field}
use Rattle.srv_session.specs.Views.{state_of, output_of, show}
use Rattle.srv_session.proofs.Rows.{on_ok, says_this, said_one, as_task}
use Rattle.srv_session.proofs.Slots.{still, on_err}
use Rattle.srv_session.proofs.session.Session.tell_field.Goals as goal

pub returns-in-Some : goal.returns-in-Some
returns-in-Some c seat legal moment =
    let found = ap (λ (p : List ℕ). part_at p c.args.ty.now) (sym c.as_str.ensures.text) ∙ sym (c.in_ok-node.ensures {u = tt}) ∙ c.in-Some.is in
    let told = field_told c.args.req c.in-Some.node in
    as_task (show seat c.args.self.now) (show seat c.say_field_type.new.self) moment (tell told) _ c.say_field_type.result (ap (told_field c.args.req) found)
    (said_one seat moment (state_of c.args.self.now) (state_of c.say_field_type.new.self) (output_of c.args.self.now) (output_of c.say_field_type.new.self) (tell told) c.say_field_type.result (said told) legal
    (says_this _) (on_ok c.say_field_type.result c.say_field_type.ensures.state) c.say_field_type.ensures.ok c.say_field_type.ensures.err (on_err c.say_field_type.result (still c.say_field_type.ensures.state)))

pub returns-in-None : goal.returns-in-None
returns-in-None c seat legal moment =
    let found = ap (λ (p : List ℕ). part_at p c.args.ty.now) (sym c.as_str.ensures.text) ∙ sym (c.in_ok-node.ensures {u = tt}) ∙ c.in-None.is in
    as_task (show seat c.args.self.now) (show seat c.refuse_field.new.self) moment (refuse (field_refused c.args.req (codes "no such field"))) _ c.refuse_field.result (ap (told_field c.args.req) found)
    (c.refuse_field.ensures seat legal moment)
