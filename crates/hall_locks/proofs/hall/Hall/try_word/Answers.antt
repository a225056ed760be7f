use Rattle.std.proofs.Common.{rules, ◌<◌, arith, sym, ap, subst, ◌∙◌}
use Rattle.hall_locks.specs.Steps.{MayTake, TookCell}
use Rattle.hall_locks.proofs.Lists.{all_among}
use Rattle.hall_locks.specs.Lines.{word_at}
use Rattle.hall_locks.proofs.Lines.{takes_at, one_more, within_words}
use Rattle.hall_locks.proofs.hall.Hall.try_word.Goals as goal

pub overflow_add-place : goal.overflow_add-place
overflow_add-place g c =
    let inside : c.args.cell < c.args.self.now.count = all_among (λ n. n < c.args.self.now.count) c.args.cell g.B.Footprint.bound c.requires.may.among c.requires.inside in
    let few : c.args.cell < 4096 = omega (arith, inside, c.args.self.now.wide.2) in
    search rules

pub word_of-word-requires : goal.word_of-word-requires
word_of-word-requires g c =
    let inside : c.args.cell < c.args.self.now.count = all_among (λ n. n < c.args.self.now.count) c.args.cell g.B.Footprint.bound c.requires.may.among c.requires.inside in
    omega (arith, inside, c.args.self.now.wide.2)

pub compare_exchange-requires : goal.compare_exchange-requires
compare_exchange-requires g c =
    let wide = c.args.self.now.wide in
    let inside : c.args.cell < c.args.self.now.count = all_among (λ n. n < c.args.self.now.count) c.args.cell g.B.Footprint.bound c.requires.may.among c.requires.inside in (
      c.loop.invariant.0 ∙ c.requires.own,
      within_words c.args.cell c.args.self.now.count c.word_of-word.result c.args.self.now.table.shared.table_id.words wide.0 c.word_of-word.ensures inside,
      takes_at _ _ _ _ _ _ _ g.T.Law.meaning _ _ _ c.args.cell (omega (arith, wide.1, inside)) c.word_of-word.result (c.word_of-word.ensures ∙ ap word_at (one_more c.args.cell)) g.B.Footprint.bound c.loop.seat.me
          (ap (λ m. m.0.live) c.loop.invariant.2 ∙ c.requires.live) (subst (λ m. MayTake m.0 g.B.Footprint.bound c.args.cell) (sym c.loop.invariant.2) c.requires.may),
    )

pub watch-requires : goal.watch-requires
watch-requires g c =
    let inside : c.args.cell < c.args.self.now.count = all_among (λ n. n < c.args.self.now.count) c.args.cell g.B.Footprint.bound c.requires.may.among c.requires.inside in
    omega (arith, inside)

pub returns-then-compare_exchange-eq-FREE-clause-own : goal.returns-then-compare_exchange-eq-FREE-clause-own
returns-then-compare_exchange-eq-FREE-clause-own g c = (
  c.compare_exchange.ensures.0 ∙ c.loop.invariant.0,
  c.compare_exchange.ensures.1 ∙ c.loop.invariant.1,
)

pub returns-then-compare_exchange-eq-FREE-clause-took : goal.returns-then-compare_exchange-eq-FREE-clause-took
returns-then-compare_exchange-eq-FREE-clause-took g c _ =
    subst (λ n. TookCell g.T.Law.meaning g.B.Footprint.bound n c.args.seat.now.me c.compare_exchange.new.seat.me) c.word_of-word.ensures
    (subst (λ m. TookCell g.T.Law.meaning g.B.Footprint.bound c.word_of-word.result m c.compare_exchange.new.seat.me) c.loop.invariant.2 (c.compare_exchange.ensures.2.0 c.if-compare_exchange-eq-FREE.true))

pub loop-preserved : goal.loop-preserved
loop-preserved g c = (
  c.compare_exchange.ensures.0 ∙ c.loop.invariant.0,
  c.compare_exchange.ensures.1 ∙ c.loop.invariant.1,
  c.compare_exchange.ensures.2.1 c.if-compare_exchange-eq-FREE.false ∙ c.loop.invariant.2,
)
