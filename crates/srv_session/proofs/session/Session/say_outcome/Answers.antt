use Rattle.std.specs.Prelude.{option_map}
use Rattle.srv_session.specs.Replies.{said, answered, outcome}
use Rattle.srv_session.proofs.Replying.{replied, unreplied}
use Rattle.srv_session.proofs.session.Session.say_outcome.Goals as goal

pub returns-in_err-say_answer : goal.returns-in_err-say_answer
returns-in_err-say_answer c =
    let failed = c.in_err-say_answer.ensures {u = tt} in
    unreplied c.args.self.now c.say_answer.new.self c.args.req c.args.sub (said (answered c.args.kind c.args.req c.args.sub (outcome (option_map (λ t. t.now) c.args.problem)))) c.from_residual.result c.from_residual.ensures.0 failed.err failed.state

pub returns : goal.returns
returns c =
    let told = c.in_ok-say_answer.ensures {u = tt} in
    replied c.args.self.now c.end_behind.new.self c.args.req c.args.sub c.say_answer.new.self (said (answered c.args.kind c.args.req c.args.sub (outcome (option_map (λ t. t.now) c.args.problem)))) told.state told.ok c.end_behind.ensures.state c.end_behind.ensures.output
