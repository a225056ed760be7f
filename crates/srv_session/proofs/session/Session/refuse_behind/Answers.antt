use Rattle.srv_session.specs.Replies.{refused}
use Rattle.srv_session.proofs.Replying.{responded}
use Rattle.srv_session.proofs.session.Session.refuse_behind.Goals as goal

pub returns : goal.returns
returns c seat legal moment =
    responded c.args.self.now c.say_outcome.new.self c.args.req c.args.sub (refused c.args.kind c.args.req c.args.sub c.args.text.now) c.say_outcome.result c.say_outcome.ensures seat legal moment
