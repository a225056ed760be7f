use Rattle.std.proofs.Common.{ℕ, ◌+◌, sym, subst}
use Rattle.cli_futures.specs.Exchanging.{Conversing}
use Rattle.cli_futures.specs.Taking.{client_view}
use Rattle.cli_futures.proofs.Conversing.{conversing_ended, conversing_on, conversing_stopped, counts_ended, counts_on, counts_stopped}
use Rattle.cli_futures.proofs.conversation.Conversation.turn.Goals as goal

pub returns-in-Ok-clause-turns : goal.returns-in-Ok-clause-turns
returns-in-Ok-clause-turns g c = λ ask begin told h waits.
    subst (λ (n : ℕ). Conversing ask begin (g.L.Link.wire c.call.new.link) told (client_view c.call.new.client) (c.args.self.now.calls + 1) n) (sym c.idles_after-self.ensures)
    (conversing_on h _ _ c.in-Ok.moved c.in-Ok.ensures)

pub returns-in-Ok-clause-idles : goal.returns-in-Ok-clause-idles
returns-in-Ok-clause-idles g c =
    counts_on (g.L.Link.wire c.args.self.now.link) (g.L.Link.wire c.call.new.link) (client_view c.args.self.now.client) (client_view c.call.new.client) c.args.self.now.idles _ c.in-Ok.moved c.in-Ok.ensures c.idles_after-self.ensures

pub returns-in-Err-clause-turns : goal.returns-in-Err-clause-turns
returns-in-Err-clause-turns g c = λ ask begin told h waits. conversing_stopped h waits c.args.self.now.patience _ (client_view c.call.new.client) c.in-Err.end c.in-Call.ensures.0 c.in-Err.ensures

pub returns-in-Err-clause-idles : goal.returns-in-Err-clause-idles
returns-in-Err-clause-idles g c = counts_stopped (g.L.Link.wire c.args.self.now.link) (g.L.Link.wire c.call.new.link) (client_view c.args.self.now.client) (client_view c.call.new.client) c.args.self.now.idles c.in-Err.end c.in-Err.ensures

pub returns-in-End-clause-turns : goal.returns-in-End-clause-turns
returns-in-End-clause-turns g c = λ ask begin told h waits. conversing_ended h waits c.args.self.now.patience c.in-End.end c.in-End.ensures

pub returns-in-End-clause-idles : goal.returns-in-End-clause-idles
returns-in-End-clause-idles g c = counts_ended (g.L.Link.wire c.args.self.now.link) (client_view c.args.self.now.client) c.args.self.now.idles c.args.self.now.calls c.args.self.now.patience c.in-End.end c.args.self.now.some c.in-End.ensures
