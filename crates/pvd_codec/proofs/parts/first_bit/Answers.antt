use Rattle.std.proofs.Common.{◌≡◌, ◌∙◌, ◌+◌, ◌*◌, ◌/◌, ◌-◌, ap, length, sym, arith}
use Rattle.pva_wire.specs.Bits.{byte_bit}
use Rattle.pvd_codec.specs.Reading.{first_marked}
use Rattle.pvd_codec.proofs.FirstBits.{marked_here, marked_later, marked_over, marked_past, zero_byte}
use Rattle.pvd_codec.proofs.parts.first_bit.Goals as goal

pub bits-preserved-then-byte_at-eq0 : goal.bits-preserved-then-byte_at-eq0
bits-preserved-then-byte_at-eq0 c =
    let body = c.args.body.now in
    let bit = c.bits.bit in
    let end = 8 * length body in
    let none = sym c.byte_at.ensures ∙ c.if-byte_at-eq0.true in
    let next : bit + (bit / 8 * 8 + 8 - bit) ≡ bit / 8 * 8 + 8 = omega arith in
    ap (λ n. first_marked (byte_bit c.args.order body) n (end - n)) (sym next)
    ∙ sym (marked_past (byte_bit c.args.order body) (bit / 8 * 8 + 8 - bit) bit end (omega (arith, c.bits-test.true)) (λ q above below. zero_byte c.args.order body (bit / 8) q none (omega (arith, next))))
    ∙ c.bits.invariant

pub returns-then-has_bit : goal.returns-then-has_bit
returns-then-has_bit c =
    let holds = sym c.has_bit.ensures ∙ c.if-has_bit.true in
    sym (marked_here (byte_bit c.args.order c.args.body.now) c.bits.bit (8 * length c.args.body.now - c.bits.bit) (omega (arith, c.bits-test.true)) holds) ∙ c.bits.invariant

pub bits-preserved : goal.bits-preserved
bits-preserved c =
    let holds = sym c.has_bit.ensures ∙ c.if-has_bit.false in
    sym (marked_later (byte_bit c.args.order c.args.body.now) c.bits.bit (8 * length c.args.body.now) (omega (arith, c.bits-test.true)) holds) ∙ c.bits.invariant

pub returns : goal.returns
returns c = sym (marked_over (byte_bit c.args.order c.args.body.now) c.bits.bit (8 * length c.args.body.now) (omega (arith, c.bits-test.false))) ∙ c.bits.invariant
