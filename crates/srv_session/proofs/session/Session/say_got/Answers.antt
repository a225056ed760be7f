use Rattle.pvd_value.specs.View.{view}
use Rattle.srv_session.specs.Replies.{said, got}
use Rattle.srv_session.proofs.Replying.{replied, unreplied}
use Rattle.srv_session.proofs.session.Session.say_got.Goals as goal

pub returns-in_err-written : goal.returns-in_err-written
returns-in_err-written c ask here =
    let failed = c.in_err-written.ensures {u = tt} in
    unreplied c.args.self.now c.say_selected-written.new.self c.args.req c.args.sub (said (got c.args.kind c.args.req c.args.sub c.args.ty.now ask.mask (view c.args.value))) c.from_residual.result c.from_residual.ensures.0 failed.err failed.state

pub returns : goal.returns
returns c ask here =
    let told = c.in_ok-written.ensures {u = tt} in
    replied c.args.self.now c.end_behind.new.self c.args.req c.args.sub c.say_selected-written.new.self (said (got c.args.kind c.args.req c.args.sub c.args.ty.now ask.mask (view c.args.value))) told.state (told.ok ask here) c.end_behind.ensures.state c.end_behind.ensures.output
