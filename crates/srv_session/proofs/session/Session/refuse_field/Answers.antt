use Rattle.srv_session.specs.Replies.{said, field_refused}
use Rattle.srv_session.specs.Tasks.{refuse}
use Rattle.srv_session.specs.Views.{state_of, output_of}
use Rattle.srv_session.proofs.Rows.{on_ok, says_this, said_one}
use Rattle.srv_session.proofs.Slots.{still, on_err}
use Rattle.srv_session.proofs.session.Session.refuse_field.Goals as goal

pub returns : goal.returns
returns c seat legal moment =
    let refusal = field_refused c.args.req c.args.text.now in
    said_one seat moment (state_of c.args.self.now) (state_of c.say_field_refusal.new.self) (output_of c.args.self.now) (output_of c.say_field_refusal.new.self) (refuse refusal) c.say_field_refusal.result (said refusal) legal
    (says_this _) (on_ok c.say_field_refusal.result c.say_field_refusal.ensures.state) c.say_field_refusal.ensures.ok c.say_field_refusal.ensures.err (on_err c.say_field_refusal.result (still c.say_field_refusal.ensures.state))
