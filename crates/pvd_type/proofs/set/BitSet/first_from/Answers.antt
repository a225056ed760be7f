use Rattle.std.proofs.Common.{◌<◌, ◌^◌, rules, arith, inl, inr}
use Rattle.std.proofs.lemmas.Bool.{cases_lt}
use Rattle.pvd_type.proofs.Sets.{none_left, least_left, past_all}
use Rattle.pvd_type.proofs.set.BitSet.first_from.Goals as goal

pub returns-then-left-ne0 : goal.returns-then-left-ne0
returns-then-left-ne0 c =
    let ws = c.self.inside.words.items in
    let bit = c.loop-bit.bit in
    let small : c.word_at.result < 2 ^ 64 = search rules in
    let least = least_left ws bit c.word_at.result c.word_at.ensures small c.if-left-ne0.true in (
      omega (arith, c.loop-bit.invariant.start),
      rw (← c.self.view_is) least.0,
      λ q from to.
          elim (cases_lt q bit) [
            | inl lt ↦ c.loop-bit.invariant.none q from lt
            | inr le ↦ rw (← c.self.view_is) (least.1 q le to)
          ],
    )

pub loop-bit-preserved : goal.loop-bit-preserved
loop-bit-preserved c =
    let ws = c.self.inside.words.items in
    let bit = c.loop-bit.bit in
    record {
      start = omega (arith, c.loop-bit.invariant.start);
      none = λ q from to.
          elim (cases_lt q bit) [
            | inl lt ↦ c.loop-bit.invariant.none q from lt
            | inr le ↦ rw (← c.self.view_is) (none_left ws bit c.word_at.result c.word_at.ensures c.if-left-ne0.false q le to)
          ];
    }

pub returns : goal.returns
returns c =
    let ws = c.self.inside.words.items in
    λ q from.
    elim (cases_lt q c.loop-bit.bit) [
      | inl lt ↦ c.loop-bit.invariant.none q from lt
      | inr le ↦ rw (← c.self.view_is) (past_all ws q (omega (arith, le, c.loop-bit-test.false, c.len.ensures.value, c.self.invariant)))
    ]
