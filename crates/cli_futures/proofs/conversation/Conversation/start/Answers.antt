use Rattle.cli_futures.specs.Taking.{client_view}
use Rattle.cli_futures.proofs.Conversing.{conversing_start}
use Rattle.cli_futures.proofs.conversation.Conversation.start.Goals as goal

pub returns-clause-going : goal.returns-clause-going
returns-clause-going g c = conversing_start c.args.ask (g.L.Link.wire c.args.link) (client_view c.start.result) c.start.ensures
