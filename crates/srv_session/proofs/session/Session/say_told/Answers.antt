use Rattle.pvd_value.specs.View.{view}
use Rattle.srv_session.specs.Replies.{said, called}
use Rattle.srv_session.proofs.Replying.{replied, unreplied}
use Rattle.srv_session.proofs.session.Session.say_told.Goals as goal

pub returns-in_err-written : goal.returns-in_err-written
returns-in_err-written c =
    let failed = c.in_err-written.ensures {u = tt} in
    unreplied c.args.self.now c.say_result-written.new.self c.args.req c.args.sub (said (called c.args.req c.args.sub c.args.told.0 (view c.args.told.1))) c.from_residual.result c.from_residual.ensures.0 failed.err failed.state

pub returns : goal.returns
returns c =
    let told = c.in_ok-written.ensures {u = tt} in
    replied c.args.self.now c.end_behind.new.self c.args.req c.args.sub c.say_result-written.new.self (said (called c.args.req c.args.sub c.args.told.0 (view c.args.told.1))) told.state told.ok c.end_behind.ensures.state c.end_behind.ensures.output
