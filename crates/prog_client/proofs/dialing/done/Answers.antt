use Rattle.std.proofs.Common.{inl}
use Rattle.cli_within.specs.Ends.{client_view}
use Rattle.prog_client.proofs.Conversing.{done_so}
use Rattle.prog_client.proofs.dialing.done.Goals as goal

pub returns-then-more : goal.returns-then-more
returns-then-more c = inl (c.has_more-more.ensures.more c.if-more.true)

pub returns : goal.returns
returns c = done_so (client_view c.args.client.now) c.ended.result (c.has_more-more.ensures.none c.if-more.false) c.ended.ensures
