use Rattle.std.proofs.Common.{◌∙◌, ℕ, Ok, ap}
use Rattle.pva_search.proofs.Protocols.{none_named, some_named}
use Rattle.pva_search.proofs.reading.speaks_tcp_at.Goals as goal

pub returns-then-count-eq0-clause-value : goal.returns-then-count-eq0-clause-value
returns-then-count-eq0-clause-value c =
    none_named c.args.order c.args.bytes.now c.in_ok-count.rest.now (c.in_ok-count.ensures.value ∙ ap (λ (n : ℕ). Ok (n, c.in_ok-count.rest.now)) c.if-count-eq0.true)

pub returns-clause-value : goal.returns-clause-value
returns-clause-value c = rw (some_named c.args.order c.args.bytes.now c.in_ok-count.count c.in_ok-count.rest.now c.in_ok-count.ensures.value c.if-count-eq0.false) c.names_tcp_at.ensures.value
