use Rattle.std.proofs.Common.{◌∙◌, sym, arith, inl, inr, get_or}
use Rattle.std.proofs.lemmas.Bool.{cases_lt}
use Rattle.std.proofs.lemmas.List.{get_or_past}
use Rattle.std.specs.Int.Bits.{or_zero_r}
use Rattle.pvd_type.proofs.set.join.Goals as goal

pub returns-clause-bits : goal.returns-clause-bits
returns-clause-bits c = λ j.
    elim (cases_lt j c.loop-i.i) [
      | inl lt ↦ c.loop-i.invariant.done j lt
      | inr le ↦ c.loop-i.invariant.rest j le ∙ sym (rw (get_or_past c.args.other.now j 0 (omega arith)) (or_zero_r (get_or c.args.words.now j 0)))
    ]
