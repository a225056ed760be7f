use Rattle.std.proofs.Common.{sym, subst}
use Rattle.desk_api.specs.declared.sub.SubAnswer.{SubAnswer}
use Rattle.srv_session.specs.Watching.{RefusesSubscription}
use Rattle.std.specs.Prelude.{codes}
use Rattle.chan_table.specs.declared.ask.AskKind.TheVariants as kinds
use Rattle.srv_session.specs.Replies.{said, refused}
use Rattle.srv_session.proofs.Monitoring.{writes_by}
use Rattle.srv_session.proofs.session.Session.refuse_subscription.Goals as goal

pub returns-in-TooManyMonitors-clause-refuses : goal.returns-in-TooManyMonitors-clause-refuses
returns-in-TooManyMonitors-clause-refuses c =
    subst (λ (a : SubAnswer). RefusesSubscription c.args.self.now c.say_answer.new.self c.args.req c.args.sub a c.say_answer.result) (sym c.in-TooManyMonitors.is)
    (writes_by c.args.self.now c.say_answer.new.self (said (refused kinds.Monitor c.args.req c.args.sub (codes "too many monitors"))) c.say_answer.result c.say_answer.ensures.ok c.say_answer.ensures.err)
