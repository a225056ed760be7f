use Rattle.std.proofs.Common.{inl, inr}
use Rattle.cli_futures.proofs.link_calls.call.Goals as goal

pub write_some-requires : goal.write_some-requires
write_some-requires g c = c.has_more-more.ensures.more c.if-more.true

pub returns-then-more : goal.returns-then-more
returns-then-more g c = inr (c.has_more-more.ensures.more c.if-more.true, c.write_some.ensures)

pub returns : goal.returns
returns g c = inl (c.has_more-more.ensures.none c.if-more.false, c.read_some.ensures)
