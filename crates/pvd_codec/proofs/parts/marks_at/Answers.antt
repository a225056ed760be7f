use Rattle.std.proofs.Common.{◌∙◌, Ok, sym, ap, nat_cmp, Some, length}
use Rattle.pvd_type.specs.Tree.{Tree}
use Rattle.pvd_type.specs.Numbers.{numbered}
use Rattle.pvd_type.specs.Sets.{IsFirstFrom}
use Rattle.std.specs.FinSet.{FinSet}
use Rattle.std.proofs.lemmas.Result.{err_from_is_err_and}
use Rattle.pvd_codec.proofs.Marks.{taken_size, marks_outside, marks_fail, marks_are, marks_inside}
use Rattle.pvd_codec.proofs.parts.marks_at.Goals as goal

pub slice_bounds-body-end : goal.slice_bounds-body-end
slice_bounds-body-end c = sym (taken_size c.args.order c.args.ty.now c.args.bytes.now c.in_ok-count.rest.now c.in_ok-count.count c.in_ok-count.ensures.value)

pub returns-in-Some : goal.returns-in-Some
returns-in-Some c =
    marks_outside c.args.order c.args.ty.now c.args.bytes.now c.in_ok-count.rest.now c.in_ok-count.count c.in_ok-count.ensures.value c.node_count.result c.node_count.ensures.count c.in-Some.bit c.in-Some.ensures

pub returns-in_err-bits : goal.returns-in_err-bits
returns-in_err-bits c =
    let p = err_from_is_err_and c.from_residual-in_err-bits.result c.from_residual-in_err-bits.ensures.1 in
    rw (p.1, p.2) (marks_fail c.args.order c.args.ty.now c.args.bytes.now c.in_ok-count.rest.now c.in_ok-count.count c.in_ok-count.ensures.value c.node_count.result c.node_count.ensures.count c.in_default.ensures
    c.in_err-bits.field-0.0 c.in_err-bits.ensures.value)

pub returns-in-Ok : goal.returns-in-Ok
returns-in-Ok c =
    marks_are c.args.order c.args.ty.now c.args.bytes.now c.in_ok-count.rest.now c.in_ok-count.count c.in_ok-count.ensures.value c.node_count.result c.node_count.ensures.count c.in_default.ensures
    c.in_ok-bits.bits c.in_ok-bits.rest.now c.in_ok-bits.ensures.value ∙ ap (λ (s : FinSet nat_cmp). Ok (s, c.in_ok-bits.rest.now)) (sym c.in-Ok.ensures.ok)

pub unreachable-requires : goal.unreachable-requires
unreachable-requires c =
    let t : Tree = c.args.ty.now in
    let outside : IsFirstFrom c.in_ok-bits.bits (length (numbered t)) (Some c.in-Err-Outside.field-0-0) = rw c.in-Err-Outside.field-0-is at c.in-Err-Outside.ensures.outside in
    marks_inside c.args.order t c.args.bytes.now c.in_ok-count.rest.now c.in_ok-count.count c.in_ok-count.ensures.value c.node_count.result c.node_count.ensures.count c.in_default.ensures
    c.in_ok-bits.bits c.in_ok-bits.rest.now c.in_ok-bits.ensures.value c.in-Err-Outside.field-0-0 outside.0 outside.1
