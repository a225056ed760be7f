use Rattle.std.proofs.Common.{◌≡◌, ◌≤◌, ◌+◌, ◌++◌, ◌∙◌, ℕ, List, Ok, refl, ap, sym, length, get_or, drop, arith, rules}
use Rattle.std.specs.FinSet as set
use Rattle.std.proofs.lemmas.List.{length-append}
use Rattle.std.proofs.lemmas.Result.{err_from_is_err_and}
use Rattle.pvd_type.specs.Tree.{Tree, leaf, node}
use Rattle.pvd_type.specs.View.{shape_view, members_view}
use Rattle.pvd_type.specs.Numbers.{numbered, numbered_fields, sizes_of}
use Rattle.pvd_type.proofs.Shapes.{unentered}
use Rattle.pvd_type.proofs.Counts.{nodes_within}
use Rattle.pvd_type.proofs.Sizes.{measured_first}
use Rattle.pvd_type.proofs.Walks.{members_from}
use Rattle.pvd_value.specs.Data.{Data}
use Rattle.pvd_value.specs.View.{view, row_view}
use Rattle.pvd_desc.specs.Types.{laid}
use Rattle.pvd_codec.specs.Reading.{State, marked_with, marked_row}
use Rattle.pvd_codec.proofs.Steps.{row_push, none_left, along}
use Rattle.pvd_codec.proofs.Unentered.{leaf_read}
use Rattle.pvd_codec.proofs.Marked.{marked_ends, marked_goes, marked_done, marked_none}
use Rattle.pvd_codec.proofs.parts.+marked.Goals as goal

first_size : (t : Tree) (rest : List ℕ) → get_or (sizes_of (numbered t) ++ rest) 0 0 ≡ length (numbered t)
first_size (leaf l) rest = refl
first_size (node k id fs) rest = refl

pub marked_at-returns-then-misses : goal.marked_at-returns-then-misses
marked_at-returns-then-misses t c =
    let tree = shape_view c.args.shape.now in
    let st : State = (c.args.bytes.now, laid c.args.base.now c.args.changed.now) in
    let size : get_or c.args.sizes.now 0 0 ≡ length (numbered tree) = ap (λ (xs : List ℕ). get_or xs 0 0) c.requires.sizes.front ∙ first_size tree c.requires.sizes.rest in
    marked_none c.args.order (set.contains c.args.mask.now) c.args.number tree st (λ k from to. c.misses.ensures.none c.if-misses.true k from (omega (arith, to, size)))
    ∙ ap (λ (v : Data). Ok (v, st)) (sym c.in_ok-blank_within-in-Struct.ensures.value)

pub marked_at-returns-in_err-value-in_default : goal.marked_at-returns-in_err-value-in_default
marked_at-returns-in_err-value-in_default t c =
    let p = err_from_is_err_and c.from_residual-in_err-value-in_default.result c.from_residual-in_err-value-in_default.ensures.1 in
    let tree = shape_view c.args.shape.now in
    let marked = set.contains c.args.mask.now in
    let st : State = (c.args.bytes.now, laid c.args.base.now c.args.changed.now) in
    let alone = unentered c.args.shape.now c.in_default.not-Struct in
    let fails = rw c.contains.ensures at c.in_err-value-in_default.ensures in
    rw (p.1, p.2) (along c.in_err-value-in_default.field-0.0 (marked_with c.args.order marked c.args.number tree st) _ (leaf_read c.args.order marked c.args.number tree st alone) fails)

pub marked_at-returns-in_ok-value-in_default : goal.marked_at-returns-in_ok-value-in_default
marked_at-returns-in_ok-value-in_default t c =
    let tree = shape_view c.args.shape.now in
    let st : State = (c.args.bytes.now, laid c.args.base.now c.args.changed.now) in
    let alone = unentered c.args.shape.now c.in_default.not-Struct in
    leaf_read c.args.order (set.contains c.args.mask.now) c.args.number tree st alone ∙ (rw c.contains.ensures at c.in_ok-value-in_default.ensures)

pub marked_row_at-marked_at-requires : goal.marked_row_at-marked_at-requires
marked_row_at-marked_at-requires t c =
    let ms = c.args.members.now in
    let i = c.loop-member.member-index in
    let m = c.member-item.result in
    let here : get_or ms i m ≡ m = search rules in
    let small = nodes_within ms i m c.loop-member-test.true here in
    let rest = members_from ms i m c.loop-member-test.true here in
    let left = numbered_fields (members_view (drop (i + 1) ms)) in
    let measures = measured_first c.loop-member.sizes.now (shape_view m.shape) left (rw rest at c.loop-member.invariant.measured) in
    let few : c.loop-member.next + length (numbered (shape_view m.shape)) ≤ 4096 =
    omega (arith, c.requires.few, rw rest at c.loop-member.invariant.total, length-append (numbered (shape_view m.shape)) left) in
    (omega (arith, small, c.decreases), (omega (arith, small, c.requires.nodes), (measures.here, few)))

pub marked_row_at-returns-in_err-value : goal.marked_row_at-returns-in_err-value
marked_row_at-returns-in_err-value t c =
    let ms = c.args.members.now in
    let i = c.loop-member.member-index in
    let m = c.member-item.result in
    let here : get_or ms i m ≡ m = search rules in
    let rest = members_from ms i m c.loop-member-test.true here in
    let p = err_from_is_err_and c.from_residual-in_err-value.result c.from_residual-in_err-value.ensures.1 in
    rw (p.1, p.2) (marked_ends c.args.order (set.contains c.args.mask.now) (row_view c.loop-member.values.items) c.loop-member.next m.name (shape_view m.shape) (members_view (drop (i + 1) ms)) (c.loop-member.rest.now, laid c.args.base.now c.loop-member.changed)
    c.in_err-value.field-0.0 (marked_row c.args.order (set.contains c.args.mask.now) c.args.number (members_view ms) (c.args.bytes.now, laid c.args.base.now c.args.changed.now)) c.in_err-value.ensures (rw rest at c.loop-member.invariant.same))

pub marked_row_at-overflow_add-next : goal.marked_row_at-overflow_add-next
marked_row_at-overflow_add-next t c =
    let ms = c.args.members.now in
    let i = c.loop-member.member-index in
    let m = c.member-item.result in
    let here : get_or ms i m ≡ m = search rules in
    let rest = members_from ms i m c.loop-member-test.true here in
    let left = numbered_fields (members_view (drop (i + 1) ms)) in
    let measures = measured_first c.loop-member.sizes.now (shape_view m.shape) left (rw rest at c.loop-member.invariant.measured) in
    let few : c.loop-member.next + c.split_size-size.result.0 ≤ 4096 =
    omega (arith, c.requires.few, c.split_size-size.ensures.size, measures.size, rw rest at c.loop-member.invariant.total, length-append (numbered (shape_view m.shape)) left) in
    search rules

pub marked_row_at-loop-member-preserved : goal.marked_row_at-loop-member-preserved
marked_row_at-loop-member-preserved t c =
    let ms = c.args.members.now in
    let i = c.loop-member.member-index in
    let m = c.member-item.result in
    let here : get_or ms i m ≡ m = search rules in
    let rest = members_from ms i m c.loop-member-test.true here in
    let left = numbered_fields (members_view (drop (i + 1) ms)) in
    let measures = measured_first c.loop-member.sizes.now (shape_view m.shape) left (rw rest at c.loop-member.invariant.measured) in
    let size : c.split_size-size.result.0 ≡ length (numbered (shape_view m.shape)) = c.split_size-size.ensures.size ∙ measures.size in
    let after : State = (c.in_ok-value.after.now, laid c.args.base.now c.marked_at.new.changed) in
    record {
      same = rw (c.in_ok-push.ensures.items, size) (row_push c.loop-member.values.items c.in_ok-value.value (marked_row c.args.order (set.contains c.args.mask.now) (c.loop-member.next + length (numbered (shape_view m.shape))) (members_view (drop (i + 1) ms)) after)
          ∙ marked_goes c.args.order (set.contains c.args.mask.now) (row_view c.loop-member.values.items) c.loop-member.next m.name (shape_view m.shape) (members_view (drop (i + 1) ms)) (c.loop-member.rest.now, laid c.args.base.now c.loop-member.changed)
          (view c.in_ok-value.value) after (marked_row c.args.order (set.contains c.args.mask.now) c.args.number (members_view ms) (c.args.bytes.now, laid c.args.base.now c.args.changed.now)) c.in_ok-value.ensures (rw rest at c.loop-member.invariant.same));
      total = omega (arith, size, rw rest at c.loop-member.invariant.total, length-append (numbered (shape_view m.shape)) left);
      measured = rw (c.split_size-size.ensures.after, measures.size) measures.after;
    }

pub marked_row_at-returns : goal.marked_row_at-returns
marked_row_at-returns t c =
    let ms = c.args.members.now in
    let over = none_left ms c.loop-member.member-index c.loop-member-test.false in
    marked_done c.args.order (set.contains c.args.mask.now) c.loop-member.next c.loop-member.values.items (c.loop-member.rest.now, laid c.args.base.now c.loop-member.changed)
    (marked_row c.args.order (set.contains c.args.mask.now) c.args.number (members_view ms) (c.args.bytes.now, laid c.args.base.now c.args.changed.now)) (rw over at c.loop-member.invariant.same)
