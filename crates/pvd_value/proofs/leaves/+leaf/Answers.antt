use Rattle.std.proofs.Common.{◌≡◌, ◌∙◌, ◌+◌, ◌-◌, ◌*◌, ◌<◌, List, subst, sym, ap, length, get_or, drop, rules, arith}
use Rattle.std.specs.Prelude.{slice_get}
use Rattle.std.proofs.lemmas.List.{take_rest}
use Rattle.pvd_type.specs.Tree.{Tree, node, struct}
use Rattle.pvd_type.specs.View.{shape_view, members_view}
use Rattle.pvd_type.specs.Numbers.{numbered, numbered_fields, nodes, nodes_in, IsMeasured}
use Rattle.pvd_type.specs.declared.shape.Member.{Member}
use Rattle.pvd_type.proofs.Counts.{nodes_within}
use Rattle.pvd_type.specs.declared.shape.Node.{Node, out-Node}
use Rattle.pvd_type.proofs.Shapes.{unentered}
use Rattle.pvd_type.proofs.Walks.{struct_is}
use Rattle.pvd_type.proofs.At.{at_first, at_past}
use Rattle.pvd_type.proofs.Sizes.{measured_first, measured_inside}
use Rattle.pvd_value.specs.View.{view, row_view}
use Rattle.pvd_value.specs.Fits.{fits_of}
use Rattle.pvd_value.specs.Leaves.{row_in, known, slots, row_slots, leaf_at}
use Rattle.pvd_value.proofs.Rows.{row_from, members_from, item, rows_split, rows_length}
use Rattle.pvd_value.proofs.Slots.{row_of_struct, slots_length, below, leaf_here, leaf_past}
use Rattle.pvd_value.proofs.leaves.+leaf.Goals as goal

pub leaf_below-leaf_among-requires : goal.leaf_below-leaf_among-requires
leaf_below-leaf_among-requires t c =
    let n = out-Node c.in-Struct.node.value in
    let listed : c.deref-in-Struct.result.now ≡ n.members.items = c.deref-in-Struct.ensures.value ∙ ap (λ (x : Node). (out-Node x).members.items) c.deref.ensures in
    let fs = members_view n.members.items in
    let is : shape_view c.args.shape.now ≡ node struct n.id fs = ap shape_view c.in-Struct.is ∙ struct_is c.in-Struct.node in
    let fits = row_of_struct 16 (view c.args.value.now) n.id fs (ap (fits_of 16 (view c.args.value.now)) (sym is) ∙ c.requires.fits) in
    let inside = measured_inside c.args.sizes.now n.id fs (subst (λ (x : Tree). IsMeasured c.args.sizes.now (numbered x)) is c.requires.sizes) in
    let fewer : 2 * nodes_in (members_view c.deref-in-Struct.result.now) + 1 < 2 * nodes (shape_view c.args.shape.now) =
    omega (arith, ap nodes is, ap (λ (xs : List Member). nodes_in (members_view xs)) listed) in
    (omega (arith, fewer, c.decreases), (rw (c.members.ensures, listed) fits, rw (listed, take_rest c.args.sizes.now 1) inside))

pub leaf_below-returns-in-Struct : goal.leaf_below-returns-in-Struct
leaf_below-returns-in-Struct t c =
    let n = out-Node c.in-Struct.node.value in
    let listed : c.deref-in-Struct.result.now ≡ n.members.items = c.deref-in-Struct.ensures.value ∙ ap (λ (x : Node). (out-Node x).members.items) c.deref.ensures in
    let fs = members_view n.members.items in
    let is : shape_view c.args.shape.now ≡ node struct n.id fs = ap shape_view c.in-Struct.is ∙ struct_is c.in-Struct.node in
    let value = view c.args.value.now in
    c.leaf_among.ensures ∙ (λ i. known (slice_get (row_slots (members_view (listed i)) (c.members.ensures i)) (c.args.number - 1)))
    ∙ below c.args.number (row_slots fs (row_in value)) c.if-number-gt0.true
    ∙ ap (λ (x : Tree). leaf_at c.args.number x value) (sym is)

pub leaf_among-split_size-size-requires-clause-within : goal.leaf_among-split_size-size-requires-clause-within
leaf_among-split_size-size-requires-clause-within t c =
    let ms = c.args.members.now in
    let vs = c.args.values.now in
    let i = c.loop-i.i in
    let m = c.index-members-i.result in
    let at_m : get_or ms i m ≡ m = search rules in
    let rest_m = members_from ms i m c.loop-i-test.true at_m in
    let left = numbered_fields (members_view (drop (i + 1) ms)) in
    let measures = measured_first c.loop-i.sizes.now (shape_view m.shape) left (rw rest_m at c.loop-i.invariant.measured) in
    omega (arith, measures.size, measures.within)

pub leaf_among-leaf_below-requires : goal.leaf_among-leaf_below-requires
leaf_among-leaf_below-requires t c =
    let ms = c.args.members.now in
    let vs = c.args.values.now in
    let i = c.loop-i.i in
    let m = c.index-members-i.result in
    let at_m : get_or ms i m ≡ m = search rules in
    let rest_m = members_from ms i m c.loop-i-test.true at_m in
    let left = numbered_fields (members_view (drop (i + 1) ms)) in
    let measures = measured_first c.loop-i.sizes.now (shape_view m.shape) left (rw rest_m at c.loop-i.invariant.measured) in
    let in_vs : i < length vs = omega (arith, rows_length 16 vs ms c.requires.fits) in
    let v = c.index-values-i.result in
    let at_v : get_or vs i v ≡ v = search rules in
    let fit = rows_split 16 vs ms i v m in_vs c.loop-i-test.true at_v at_m c.loop-i.invariant.fits in
    (omega (arith, nodes_within ms i m c.loop-i-test.true at_m, c.decreases), (fit.0, measures.here))

pub leaf_among-returns-then-left-size : goal.leaf_among-returns-then-left-size
leaf_among-returns-then-left-size t c =
    let ms = c.args.members.now in
    let vs = c.args.values.now in
    let i = c.loop-i.i in
    let m = c.index-members-i.result in
    let at_m : get_or ms i m ≡ m = search rules in
    let rest_m = members_from ms i m c.loop-i-test.true at_m in
    let left = numbered_fields (members_view (drop (i + 1) ms)) in
    let measures = measured_first c.loop-i.sizes.now (shape_view m.shape) left (rw rest_m at c.loop-i.invariant.measured) in
    let in_vs : i < length vs = omega (arith, rows_length 16 vs ms c.requires.fits) in
    let v = c.index-values-i.result in
    let at_v : get_or vs i v ≡ v = search rules in
    let fit = rows_split 16 vs ms i v m in_vs c.loop-i-test.true at_v at_m c.loop-i.invariant.fits in
    let rest_v = row_from vs i v in_vs at_v in
    let mine = slots (shape_view m.shape) (view v) in
    let others = row_slots (members_view (drop (i + 1) ms)) (row_view (drop (i + 1) vs)) in
    let first = at_first c.loop-i.left mine others (omega (arith, c.split_size-size.ensures.size, measures.size, slots_length 16 (view v) (shape_view m.shape) fit.0)) in
    c.leaf_below.ensures ∙ ap known (sym first) ∙ (rw (rest_m, rest_v) at c.loop-i.invariant.same)

pub leaf_among-loop-i-preserved : goal.leaf_among-loop-i-preserved
leaf_among-loop-i-preserved t c =
    let ms = c.args.members.now in
    let vs = c.args.values.now in
    let i = c.loop-i.i in
    let m = c.index-members-i.result in
    let at_m : get_or ms i m ≡ m = search rules in
    let rest_m = members_from ms i m c.loop-i-test.true at_m in
    let left = numbered_fields (members_view (drop (i + 1) ms)) in
    let measures = measured_first c.loop-i.sizes.now (shape_view m.shape) left (rw rest_m at c.loop-i.invariant.measured) in
    let in_vs : i < length vs = omega (arith, rows_length 16 vs ms c.requires.fits) in
    let here = item vs i in_vs in
    let v = here.0 in
    let at_v = here.1 in
    let fit = rows_split 16 vs ms i v m in_vs c.loop-i-test.true at_v at_m c.loop-i.invariant.fits in
    let rest_v = row_from vs i v in_vs at_v in
    let size : c.split_size-size.result.0 ≡ length (numbered (shape_view m.shape)) = c.split_size-size.ensures.size ∙ measures.size in
    let mine = slots (shape_view m.shape) (view v) in
    let others = row_slots (members_view (drop (i + 1) ms)) (row_view (drop (i + 1) vs)) in
    let long : length mine ≡ c.split_size-size.result.0 = slots_length 16 (view v) (shape_view m.shape) fit.0 ∙ sym size in
    let past = at_past c.loop-i.left mine others (omega (arith, long)) in
    record {
      same = ap (λ k. known (slice_get others (c.loop-i.left - k))) (sym long) ∙ ap known (sym past) ∙ (rw (rest_m, rest_v) at c.loop-i.invariant.same);
      measured = rw (c.split_size-size.ensures.after, measures.size) measures.after;
      fits = fit.1;
    }

pub leaf_below-returns-in_default : goal.leaf_below-returns-in_default
leaf_below-returns-in_default t c =
    leaf_here (shape_view c.args.shape.now) (view c.args.value.now) c.args.number c.if-number-eq0.true (unentered c.args.shape.now c.in_default.not-Struct)

pub leaf_below-returns-in_default-2 : goal.leaf_below-returns-in_default-2
leaf_below-returns-in_default-2 t c =
    leaf_past (shape_view c.args.shape.now) (view c.args.value.now) c.args.number c.if-number-eq0.false (unentered c.args.shape.now c.in_default.not-Struct)
