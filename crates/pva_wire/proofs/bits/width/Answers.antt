use Rattle.std.proofs.Common.{◌≡◌, ◌∙◌, ap, sym, arith}
use Rattle.pva_wire.specs.Bits.{covering}
use Rattle.pva_wire.proofs.BitsHeld.{covering_none, covering_down, covering_stop, covering_bound}
use Rattle.pva_wire.proofs.bits.width.Goals as goal

pub loop-count-init : goal.loop-count-init
loop-count-init c = record { few = c.bound-count.ensures.few; same = covering_bound c.args.bits.now c.bound-count.result c.bound-count.ensures.few c.bound-count.ensures.none }

pub loop-count-preserved : goal.loop-count-preserved
loop-count-preserved c =
    let s = c.args.bits.now in
    let none = sym c.byte.ensures ∙ c.if-byte-eq0.true in
    record { few = omega (arith, c.loop-count.invariant.few); same = sym (covering_down s c.loop-count.count c.loop-count-test.true none) ∙ c.loop-count.invariant.same }

pub returns-else-byte-eq0-clause-width : goal.returns-else-byte-eq0-clause-width
returns-else-byte-eq0-clause-width c =
    let s = c.args.bits.now in
    sym (covering_stop s c.loop-count.count c.loop-count-test.true (λ e. c.if-byte-eq0.false (c.byte.ensures ∙ e))) ∙ c.loop-count.invariant.same

pub returns-after-loop-count-clause-width : goal.returns-after-loop-count-clause-width
returns-after-loop-count-clause-width c =
    let s = c.args.bits.now in
    let none : c.loop-count.count ≡ 0 = omega (arith, c.loop-count-test.false) in
    none ∙ sym (covering_none s) ∙ ap (covering s) (sym none) ∙ c.loop-count.invariant.same
