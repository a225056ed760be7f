use Rattle.std.proofs.Common.{Some}
use Rattle.srv_session.specs.Replies.{said, refused}
use Rattle.srv_session.specs.Tasks.{refuse}
use Rattle.srv_session.specs.Views.{state_of, output_of}
use Rattle.srv_session.proofs.Rows.{on_ok, says_this, said_one}
use Rattle.srv_session.proofs.Slots.{still, on_err}
use Rattle.srv_session.proofs.session.Session.refuse.Goals as goal

pub returns : goal.returns
returns c seat legal moment =
    let reply = refused c.args.kind c.args.req c.args.sub c.args.text.now in
    said_one seat moment (state_of c.args.self.now) (state_of c.say_answer.new.self) (output_of c.args.self.now) (output_of c.say_answer.new.self) (refuse reply) c.say_answer.result (said reply) legal
    (says_this _) (on_ok c.say_answer.result c.say_answer.ensures.state) c.say_answer.ensures.ok c.say_answer.ensures.err (on_err c.say_answer.result (still c.say_answer.ensures.state))
