use Rattle.std.proofs.Common.{sym, ◌∙◌}
use Rattle.cli_futures.specs.Exchanges.{MayGive}
use Rattle.cli_futures.proofs.Collected.{given_from, may_give_on, on_pending}
use Rattle.cli_futures.proofs.exchange.ExchangeFuture.poll.Goals as goal

pub returns-in-None-clause-same : goal.returns-in-None-clause-same
returns-in-None-clause-same g c =
    on_pending c.ask_again.result (λ x gives.
    given_from (λ a. MayGive g.L.Link.wire a x) c.args.self.now.going c.in-Some.going (sym c.take.ensures.value ∙ c.in-Some.is)
    (may_give_on g.L.Link.wire c.in-Some.going c.collect.new.self c.in-None.ensures.patience c.in-None.ensures.collects x gives))
