use Rattle.std.proofs.Common.{◌≡◌, ◌∙◌, ◌*◌, ◌&&◌, ◌⊎◌, ap, sym, arith, inl, inr, length, nat_lt}
use Rattle.std.proofs.lemmas.Bool.{le-ltb}
use Rattle.std.specs.FinSet.{contains-empty}
use Rattle.std.specs.Ordering.{nat_cmp}
use Rattle.pva_wire.specs.Bits.{byte_bit}
use Rattle.pva_wire.proofs.BitsHeld.{one_byte, all_read}
use Rattle.pva_wire.proofs.bits.set_of.Goals as goal
use Rattle.pva_wire.proofs.bits.set_of.Goals.{then-body-lt8192, else-body-lt8192}

pub loop-p-init : goal.loop-p-init
loop-p-init c = λ q. rw (c.new-bits.ensures, contains-empty nat_cmp q) (ap (λ b. b && byte_bit c.args.order c.args.body.now q) (sym (le-ltb q 0 (omega arith))))

pub loop-p-preserved : goal.loop-p-preserved
loop-p-preserved c = λ q.
    c.in_ok-insert_byte.ensures.ok q
    ∙ rw (c.loop-p.invariant q, c.byte_place.ensures.place) (one_byte c.args.order c.args.body.now c.loop-p.p q)

pub returns : goal.returns
returns c =
    let n = length c.args.body.now in
    let count : (c.if-body-lt8192.count ≡ n) ⊎ (c.if-body-lt8192.count ≡ 8192) =
    elim c.if-body-lt8192.branch [ then-body-lt8192 w ↦ inl w.count-is | else-body-lt8192 w ↦ inr w.count-is ] in
    all_read c.args.order c.args.body.now c.if-body-lt8192.count c.loop-p.bits c.requires count (λ q.
    let e : c.loop-p.p ≡ c.if-body-lt8192.count = omega arith in
    c.loop-p.invariant q ∙ ap (λ n. nat_lt q (8 * n) && byte_bit c.args.order c.args.body.now q) e)
