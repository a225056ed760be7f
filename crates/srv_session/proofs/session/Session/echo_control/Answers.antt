use Rattle.srv_session.specs.Replies.{control}
use Rattle.srv_session.specs.Tasks.{echo_control}
use Rattle.srv_session.specs.Views.{state_of, output_of}
use Rattle.srv_session.proofs.Rows.{on_ok, says_this, said_one}
use Rattle.srv_session.proofs.Slots.{still, on_err}
use Rattle.srv_session.proofs.session.Session.echo_control.Goals as goal

pub returns : goal.returns
returns c seat legal moment =
    said_one seat moment (state_of c.args.self.now) (state_of c.say_control.new.self) (output_of c.args.self.now) (output_of c.say_control.new.self) (echo_control c.args.number) c.say_control.result (control 4 c.args.number) legal
    (says_this _) (on_ok c.say_control.result c.say_control.ensures.state) c.say_control.ensures.ok c.say_control.ensures.err (on_err c.say_control.result (still c.say_control.ensures.state))
