use Rattle.std.proofs.Common.{arith, ap, subst, ◌∙◌}
use Rattle.hall_locks.specs.Steps.{TookHub}
use Rattle.hall_locks.proofs.Lines.{hub_within, takes_hub}
use Rattle.hall_locks.proofs.hall.Hall.try_hub_word.Goals as goal

pub compare_exchange-requires : goal.compare_exchange-requires
compare_exchange-requires g c =
    let wide = c.args.self.now.wide in (
      c.loop.invariant.0 ∙ c.requires.own,
      hub_within _ _ wide.0,
      takes_hub _ _ _ _ _ _ _ g.T.Law.meaning _ _ _ (omega (arith, wide.1)) c.loop.seat.me (ap (λ m. m.0.live) c.loop.invariant.2 ∙ c.requires.live),
    )

pub returns-then-compare_exchange-eq-FREE-clause-own : goal.returns-then-compare_exchange-eq-FREE-clause-own
returns-then-compare_exchange-eq-FREE-clause-own g c = (
  c.compare_exchange.ensures.0 ∙ c.loop.invariant.0,
  c.compare_exchange.ensures.1 ∙ c.loop.invariant.1,
)

pub returns-then-compare_exchange-eq-FREE-clause-took : goal.returns-then-compare_exchange-eq-FREE-clause-took
returns-then-compare_exchange-eq-FREE-clause-took g c _ =
    subst (λ m. TookHub g.T.Law.meaning m c.compare_exchange.new.seat.me) c.loop.invariant.2 (c.compare_exchange.ensures.2.0 c.if-compare_exchange-eq-FREE.true)

pub loop-preserved : goal.loop-preserved
loop-preserved g c = (
  c.compare_exchange.ensures.0 ∙ c.loop.invariant.0,
  c.compare_exchange.ensures.1 ∙ c.loop.invariant.1,
  c.compare_exchange.ensures.2.1 c.if-compare_exchange-eq-FREE.false ∙ c.loop.invariant.2,
)
