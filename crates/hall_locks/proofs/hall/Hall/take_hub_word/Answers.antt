use Rattle.std.proofs.Common.{arith, ap, subst, ◌∙◌}
use Rattle.hall_locks.specs.Steps.{TookHub}
use Rattle.hall_locks.proofs.Lines.{hub_within, takes_hub_waiting}
use Rattle.hall_locks.proofs.hall.Hall.take_hub_word.Goals as goal

pub swap-requires : goal.swap-requires
swap-requires g c =
    let now = c.loop.invariant.2 ∙ c.try_hub_word.ensures.not c.if-try_hub_word.false in
    let wide = c.args.self.now.wide in (
      c.loop.invariant.0 ∙ (c.try_hub_word.ensures.own.0 ∙ c.requires.own),
      hub_within _ _ wide.0,
      takes_hub_waiting _ _ _ _ _ _ _ g.T.Law.meaning _ _ _ (omega (arith, wide.1)) c.loop.seat.me (ap (λ m. m.0.live) now ∙ c.requires.live),
    )

pub park-requires : goal.park-requires
park-requires g c = hub_within _ _ c.args.self.now.wide.0

pub returns-then-swap-eq-FREE-clause-own : goal.returns-then-swap-eq-FREE-clause-own
returns-then-swap-eq-FREE-clause-own g c = (
  c.swap.ensures.0 ∙ (c.loop.invariant.0 ∙ c.try_hub_word.ensures.own.0),
  c.swap.ensures.1 ∙ (c.loop.invariant.1 ∙ c.try_hub_word.ensures.own.1),
)

pub returns-then-swap-eq-FREE-clause-took : goal.returns-then-swap-eq-FREE-clause-took
returns-then-swap-eq-FREE-clause-took g c =
    let now = c.loop.invariant.2 ∙ c.try_hub_word.ensures.not c.if-try_hub_word.false in
    subst (λ m. TookHub g.T.Law.meaning m c.swap.new.seat.me) now (c.swap.ensures.2.0 c.if-swap-eq-FREE.true)

pub loop-preserved : goal.loop-preserved
loop-preserved g c = (
  c.swap.ensures.0 ∙ c.loop.invariant.0,
  c.swap.ensures.1 ∙ c.loop.invariant.1,
  c.swap.ensures.2.1 c.if-swap-eq-FREE.false ∙ c.loop.invariant.2,
)
