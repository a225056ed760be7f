use Rattle.std.proofs.Common.{rules, ◌<◌, arith, sym, ap, subst, ◌∙◌}
use Rattle.hall_locks.specs.Steps.{MayTake, TookCell}
use Rattle.hall_locks.proofs.Lists.{all_among}
use Rattle.hall_locks.specs.Lines.{word_at}
use Rattle.hall_locks.proofs.Lines.{takes_waiting_at, one_more, within_words}
use Rattle.hall_locks.proofs.hall.Hall.take_word.Goals as goal

pub overflow_add-place : goal.overflow_add-place
overflow_add-place g c =
    let inside : c.args.cell < c.args.self.now.count = all_among (λ n. n < c.args.self.now.count) c.args.cell g.B.Footprint.bound c.requires.may.among c.requires.inside in
    let few : c.args.cell < 4096 = omega (arith, inside, c.args.self.now.wide.2) in
    search rules

pub word_of-word-requires : goal.word_of-word-requires
word_of-word-requires g c =
    let inside : c.args.cell < c.args.self.now.count = all_among (λ n. n < c.args.self.now.count) c.args.cell g.B.Footprint.bound c.requires.may.among c.requires.inside in
    omega (arith, inside, c.args.self.now.wide.2)

pub swap-requires : goal.swap-requires
swap-requires g c =
    let same = c.loop.invariant.2 in
    let before = c.try_word.ensures.not c.if-try_word.false in
    let now = same ∙ before in
    let wide = c.args.self.now.wide in
    let inside : c.args.cell < c.args.self.now.count = all_among (λ n. n < c.args.self.now.count) c.args.cell g.B.Footprint.bound c.requires.may.among c.requires.inside in (
      c.loop.invariant.0 ∙ (c.try_word.ensures.own.0 ∙ c.requires.own),
      within_words c.args.cell c.args.self.now.count c.word_of-word.result c.args.self.now.table.shared.table_id.words wide.0 c.word_of-word.ensures inside,
      takes_waiting_at _ _ _ _ _ _ _ g.T.Law.meaning _ _ _ c.args.cell (omega (arith, wide.1, inside)) c.word_of-word.result (c.word_of-word.ensures ∙ ap word_at (one_more c.args.cell)) g.B.Footprint.bound c.loop.seat.me
          (ap (λ m. m.0.live) now ∙ c.requires.live) (subst (λ m. MayTake m.0 g.B.Footprint.bound c.args.cell) (sym now) c.requires.may),
    )

pub park-requires : goal.park-requires
park-requires g c =
    let inside : c.args.cell < c.args.self.now.count = all_among (λ n. n < c.args.self.now.count) c.args.cell g.B.Footprint.bound c.requires.may.among c.requires.inside in
    within_words c.args.cell c.args.self.now.count c.word_of-word.result c.args.self.now.table.shared.table_id.words c.args.self.now.wide.0 c.word_of-word.ensures inside

pub returns-then-swap-eq-FREE-clause-own : goal.returns-then-swap-eq-FREE-clause-own
returns-then-swap-eq-FREE-clause-own g c = (
  c.swap.ensures.0 ∙ (c.loop.invariant.0 ∙ c.try_word.ensures.own.0),
  c.swap.ensures.1 ∙ (c.loop.invariant.1 ∙ c.try_word.ensures.own.1),
)

pub returns-then-swap-eq-FREE-clause-took : goal.returns-then-swap-eq-FREE-clause-took
returns-then-swap-eq-FREE-clause-took g c =
    let now = c.loop.invariant.2 ∙ c.try_word.ensures.not c.if-try_word.false in
    subst (λ n. TookCell g.T.Law.meaning g.B.Footprint.bound n c.args.seat.now.me c.swap.new.seat.me) c.word_of-word.ensures
    (subst (λ m. TookCell g.T.Law.meaning g.B.Footprint.bound c.word_of-word.result m c.swap.new.seat.me) now (c.swap.ensures.2.0 c.if-swap-eq-FREE.true))

pub loop-preserved : goal.loop-preserved
loop-preserved g c = (
  c.swap.ensures.0 ∙ c.loop.invariant.0,
  c.swap.ensures.1 ∙ c.loop.invariant.1,
  c.swap.ensures.2.1 c.if-swap-eq-FREE.false ∙ c.loop.invariant.2,
)
