use Rattle.std.proofs.Common.{sym, ◌∙◌}
use Rattle.cli_futures.specs.Updating.{Follows}
use Rattle.cli_futures.proofs.Collected.{given_from}
use Rattle.cli_futures.proofs.Given.{follows_as, follows_on}
use Rattle.cli_futures.proofs.next.NextUpdateFuture.poll.Goals as goal

pub returns-in-Ready-clause-value : goal.returns-in-Ready-clause-value
returns-in-Ready-clause-value g c =
    given_from (λ u. Follows g.L.Link.wire u c.poll_next.new.self c.in-Ready.report) c.args.self.now.updates c.in-Some.updates (sym c.take.ensures.value ∙ c.in-Some.is)
    (follows_as g.L.Link.wire c.in-Some.updates c.poll_next.new.self c.in-Ready.report c.in-Ready.ensures.gives)

pub returns-in-Pending-clause-same : goal.returns-in-Pending-clause-same
returns-in-Pending-clause-same g c = λ x gives.
    given_from (λ u. Follows g.L.Link.wire u x.1 x.0) c.args.self.now.updates c.in-Some.updates (sym c.take.ensures.value ∙ c.in-Some.is)
    (follows_on g.L.Link.wire c.in-Some.updates c.poll_next.new.self x.1 x.0 c.in-Pending.ensures.waits.none gives)
