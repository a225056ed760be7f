use Rattle.std.proofs.Common.{refl, sym}
use Rattle.pva_search.specs.Reading.{each_at, texts_at, channel_at}
use Rattle.pva_search.specs.Answers.{speaks_tcp}
use Rattle.pva_search.proofs.Searching.{of_mapped, search_is}
use Rattle.pva_search.proofs.search.search_at.Goals as goal

pub returns-clause-value : goal.returns-clause-value
returns-clause-value c =
    let (protocols, e2, speaks) = of_mapped speaks_tcp (texts_at c.args.order c.in_ok-head.rest.now) c.in_ok-speaks_tcp.speaks_tcp c.in_ok-speaks_tcp.rest.now c.in_ok-speaks_tcp.ensures.value in
    let (channels, e4, _) = of_mapped (λ _. tt {0}) (each_at (channel_at c.args.order) c.in_ok-count.count c.in_ok-count.channels.now) (tt {0}) c.in_ok-pass_channels.field-0.now c.in_ok-pass_channels.ensures.value in (
      record { head = c.in_ok-head.head; protocols = protocols; channels = channels },
      c.in_ok-pass_channels.field-0.now,
      search_is c.args.order c.args.payload.now c.in_ok-head.head c.in_ok-head.rest.now protocols c.in_ok-speaks_tcp.rest.now c.in_ok-count.count c.in_ok-count.channels.now channels c.in_ok-pass_channels.field-0.now c.in_ok-head.ensures.value e2 c.in_ok-count.ensures.value e4,
      record { head = refl; protocols = sym speaks; after = c.in_ok-pass_channels.field-0.now; channels = e4 },
    )
