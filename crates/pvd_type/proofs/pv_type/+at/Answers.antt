use Rattle.std.proofs.Common.{◌≡◌, ◌+◌, length, get_or, drop, ◌∙◌, sym, arith, rules}
use Rattle.pvd_type.specs.View.{shape_view, members_view}
use Rattle.pvd_type.specs.Numbers.{numbered, numbered_fields}
use Rattle.pvd_type.proofs.Shapes.{unentered}
use Rattle.pvd_type.proofs.Walks.{members_from}
use Rattle.pvd_type.proofs.At.{at_first, at_past, lone_past}
use Rattle.pvd_type.proofs.Sizes.{measured_first}
use Rattle.pvd_type.proofs.pv_type.+at.Goals as goal

pub at_among-returns-then-left-size : goal.at_among-returns-then-left-size
at_among-returns-then-left-size t c =
    let ms = c.args.members.now in
    let i = c.loop-member.member-index in
    let m = c.member-item.result in
    let here : get_or ms i m ≡ m = search rules in
    let rest = members_from ms i m c.loop-member-test.true here in
    let left = numbered_fields (members_view (drop (i + 1) ms)) in
    let measures = measured_first c.loop-member.sizes.now (shape_view m.shape) left (rw rest at c.loop-member.invariant.measured) in
    let first = at_first c.loop-member.left (numbered (shape_view m.shape)) left (omega (arith, c.split_size-size.ensures.size, measures.size)) in
    c.at.ensures ∙ sym first ∙ (rw rest at c.loop-member.invariant.same)

pub at_among-loop-member-preserved : goal.at_among-loop-member-preserved
at_among-loop-member-preserved t c =
    let ms = c.args.members.now in
    let i = c.loop-member.member-index in
    let m = c.member-item.result in
    let here : get_or ms i m ≡ m = search rules in
    let rest = members_from ms i m c.loop-member-test.true here in
    let left = numbered_fields (members_view (drop (i + 1) ms)) in
    let measures = measured_first c.loop-member.sizes.now (shape_view m.shape) left (rw rest at c.loop-member.invariant.measured) in
    let size : c.split_size-size.result.0 ≡ length (numbered (shape_view m.shape)) = c.split_size-size.ensures.size ∙ measures.size in
    let past = at_past c.loop-member.left (numbered (shape_view m.shape)) left (omega (arith, size)) in
    record {
      same = rw size (sym past ∙ (rw rest at c.loop-member.invariant.same));
      measured = rw (c.split_size-size.ensures.after, measures.size) measures.after;
    }

pub at-returns-in_default : goal.at-returns-in_default
at-returns-in_default t c = lone_past (shape_view c.args.shape.now) c.args.number c.if-number-eq0.false (unentered c.args.shape.now c.in_default.not-Struct)
