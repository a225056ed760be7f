use Rattle.std.proofs.Common.{◌≡◌, ◌∙◌, ◌+◌, ◌*◌, ◌<◌, ◌≤◌, ℕ, Bool, List, subst, fold, sym, ap, length, get_or, drop, rules, arith}
use Rattle.std.specs.FinSet as set
use Rattle.std.specs.List.{filter}
use Rattle.std.proofs.lemmas.List.{length-append, take_rest}
use Rattle.std.proofs.lemmas.List.Elements.{filter-append}
use Rattle.pvd_type.proofs.Sizes.{measured_first, measured_inside}
use Rattle.pvd_value.proofs.Differences.{filter_none}
use Rattle.pvd_type.specs.Tree.{Tree, node, struct}
use Rattle.pvd_type.specs.View.{shape_view, members_view}
use Rattle.pvd_type.specs.Numbers.{numbered, numbered_fields, nodes, nodes_in, IsMeasured}
use Rattle.pvd_type.specs.declared.shape.Member.{Member}
use Rattle.pvd_type.specs.declared.shape.Node.{Node, out-Node}
use Rattle.pvd_type.proofs.Counts.{nodes_within}
use Rattle.pvd_type.proofs.Walks.{struct_is}
use Rattle.pvd_value.specs.View.{view, row_view}
use Rattle.pvd_value.specs.Fits.{fits_of}
use Rattle.std.proofs.lemmas.List.Sums.{fold-append}
use Rattle.pvd_value.specs.Leaves.{slots, row_slots}
use Rattle.pvd_value.specs.Same.{differing}
use Rattle.pvd_value.proofs.Rows.{row_from, members_from, rows_split, rows_length, rows_over}
use Rattle.pvd_type.proofs.Shapes.{unentered}
use Rattle.pvd_value.proofs.Slots.{row_of_struct, slots_length, differing-append, lone_slot}
use Rattle.pvd_value.proofs.marked.+compare.Goals as goal

pub compare-compare_rows-requires : goal.compare-compare_rows-requires
compare-compare_rows-requires t c =
    let n = out-Node c.in-Struct.node.value in
    let listed : c.deref-in-Struct.result.now ≡ n.members.items = c.deref-in-Struct.ensures.value ∙ ap (λ (x : Node). (out-Node x).members.items) c.deref.ensures in
    let fs = members_view n.members.items in
    let is : shape_view c.args.shape.now ≡ node struct n.id fs = ap shape_view c.in-Struct.is ∙ struct_is c.in-Struct.node in
    let a_fits = row_of_struct 16 (view c.args.a.now) n.id fs (ap (fits_of 16 (view c.args.a.now)) (sym is) ∙ c.requires.a) in
    let b_fits = row_of_struct 16 (view c.args.b.now) n.id fs (ap (fits_of 16 (view c.args.b.now)) (sym is) ∙ c.requires.b) in
    let fewer : 3 * nodes_in (members_view c.deref-in-Struct.result.now) + 2 < 3 * nodes (shape_view c.args.shape.now) =
    omega (arith, ap nodes is, ap (λ (xs : List Member). nodes_in (members_view xs)) listed) in
    let few : c.args.number + 1 + length (numbered_fields (members_view c.deref-in-Struct.result.now)) ≤ 4096 =
    omega (arith, c.requires.few, ap (λ (x : Tree). length (numbered x)) is, ap (λ (xs : List Member). length (numbered_fields (members_view xs))) listed) in
    let inside = measured_inside c.args.sizes.now n.id fs (subst (λ (x : Tree). IsMeasured c.args.sizes.now (numbered x)) is c.requires.sizes) in
    (omega (arith, fewer, c.decreases), (rw (c.members-old.ensures, listed) a_fits, (rw (c.members-new.ensures, listed) b_fits, (rw (listed, take_rest c.args.sizes.now 1) inside, few))))

pub compare_rows-compare_member-requires : goal.compare_rows-compare_member-requires
compare_rows-compare_member-requires t c =
    let ms = c.args.members.now in
    let i = c.loop-i.i in
    let m = c.index-members-i.result in
    let in_ms : i < length ms = c.loop-i-test.true in
    let at_m : get_or ms i m ≡ m = search rules in
    let as_ = c.args.a.now in
    let in_a : i < length as_ = omega (arith, rows_length 16 as_ ms c.requires.a, in_ms) in
    let a = c.index-a-i.result in
    let at_a : get_or as_ i a ≡ a = search rules in
    let fit_a = rows_split 16 as_ ms i a m in_a in_ms at_a at_m c.loop-i.invariant.a_fits in
    let bs = c.args.b.now in
    let in_b : i < length bs = omega (arith, rows_length 16 bs ms c.requires.b, in_ms) in
    let b = c.index-b-i.result in
    let at_b : get_or bs i b ≡ b = search rules in
    let fit_b = rows_split 16 bs ms i b m in_b in_ms at_b at_m c.loop-i.invariant.b_fits in
    let rest_m = members_from ms i m in_ms at_m in
    let left = numbered_fields (members_view (drop (i + 1) ms)) in
    let measures = measured_first c.loop-i.sizes.now (shape_view m.shape) left (rw rest_m at c.loop-i.invariant.measured) in
    let few : c.loop-i.next + length (numbered (shape_view m.shape)) ≤ 4096 =
    omega (arith, c.requires.few, rw rest_m at c.loop-i.invariant.total, length-append (numbered (shape_view m.shape)) left) in
    let count : c.split_size-size.result.0 ≡ length (numbered (shape_view m.shape)) = c.split_size-size.ensures.size ∙ measures.size in
    (omega (arith, nodes_within ms i m in_ms at_m, c.decreases), (fit_a.0, (fit_b.0, (measures.here, (count, few)))))

pub compare_rows-returns : goal.compare_rows-returns
compare_rows-returns t c =
    let ms = c.args.members.now in
    let xs = c.args.a.now in
    let i = c.loop-i.i in
    let over = rows_over xs ms i (rows_length 16 xs ms c.requires.a) c.loop-i-test.false in
    let found = c.loop-i.found in
    let mask = set.contains c.args.mask.now in
    let rest : fold set.insert found (filter mask (differing c.loop-i.next (row_slots (members_view (drop i ms)) (row_view (drop i xs))) (row_slots (members_view (drop i ms)) (row_view (drop i c.args.b.now))))) ≡ found =
    λ j. fold set.insert found (filter mask (differing c.loop-i.next (row_slots (over.1 j) (row_view (drop i xs))) (row_slots (over.1 j) (row_view (drop i c.args.b.now))))) in
    sym rest ∙ c.loop-i.invariant.same

pub compare_rows-loop-i-preserved : goal.compare_rows-loop-i-preserved
compare_rows-loop-i-preserved t c =
    let ms = c.args.members.now in
    let i = c.loop-i.i in
    let m = c.index-members-i.result in
    let in_ms : i < length ms = c.loop-i-test.true in
    let at_m : get_or ms i m ≡ m = search rules in
    let as_ = c.args.a.now in
    let in_a : i < length as_ = omega (arith, rows_length 16 as_ ms c.requires.a, in_ms) in
    let a = c.index-a-i.result in
    let at_a : get_or as_ i a ≡ a = search rules in
    let fit_a = rows_split 16 as_ ms i a m in_a in_ms at_a at_m c.loop-i.invariant.a_fits in
    let bs = c.args.b.now in
    let in_b : i < length bs = omega (arith, rows_length 16 bs ms c.requires.b, in_ms) in
    let b = c.index-b-i.result in
    let at_b : get_or bs i b ≡ b = search rules in
    let fit_b = rows_split 16 bs ms i b m in_b in_ms at_b at_m c.loop-i.invariant.b_fits in
    let rest_m = members_from ms i m in_ms at_m in
    let rest_a = row_from as_ i a in_a at_a in
    let rest_b = row_from bs i b in_b at_b in
    let left = numbered_fields (members_view (drop (i + 1) ms)) in
    let inv = rw (rest_m, rest_a, rest_b) at c.loop-i.invariant.same in
    let measures = measured_first c.loop-i.sizes.now (shape_view m.shape) left (rw rest_m at c.loop-i.invariant.measured) in
    let size : c.split_size-size.result.0 ≡ length (numbered (shape_view m.shape)) = c.split_size-size.ensures.size ∙ measures.size in
    let mask : ℕ → Bool = set.contains c.args.mask.now in
    let found = c.loop-i.found in
    let slots_a = slots (shape_view m.shape) (view a) in
    let slots_b = slots (shape_view m.shape) (view b) in
    let others_a = row_slots (members_view (drop (i + 1) ms)) (row_view (drop (i + 1) as_)) in
    let others_b = row_slots (members_view (drop (i + 1) ms)) (row_view (drop (i + 1) bs)) in
    let mine = differing c.loop-i.next slots_a slots_b in
    let len = slots_length 16 (view a) (shape_view m.shape) fit_a.0 in
    let long : length slots_a ≡ length slots_b = len ∙ sym (slots_length 16 (view b) (shape_view m.shape) fit_b.0) in
    record {
      same = (λ j. fold set.insert (c.in_ok-compare_member.ensures j) (filter mask (differing (c.loop-i.next + size j) others_a others_b)))
          ∙ ap (λ k. fold set.insert (fold set.insert found (filter mask mine)) (filter mask (differing (c.loop-i.next + k) others_a others_b))) (sym len)
          ∙ sym (fold-append set.insert found (filter mask mine) (filter mask (differing (c.loop-i.next + length slots_a) others_a others_b)))
          ∙ ap (fold set.insert found) (sym (filter-append mask mine (differing (c.loop-i.next + length slots_a) others_a others_b)))
          ∙ ap (λ ns. fold set.insert found (filter mask ns)) (sym (differing-append c.loop-i.next slots_a slots_b others_a others_b long)) ∙ inv;
      total = omega (arith, size, rw rest_m at c.loop-i.invariant.total, length-append (numbered (shape_view m.shape)) left);
      measured = rw (c.split_size-size.ensures.after, measures.size) measures.after;
      a_fits = fit_a.1;
      b_fits = fit_b.1;
    }

pub compare_rows-overflow_add-next : goal.compare_rows-overflow_add-next
compare_rows-overflow_add-next t c =
    let ms = c.args.members.now in
    let i = c.loop-i.i in
    let m = c.index-members-i.result in
    let at_m : get_or ms i m ≡ m = search rules in
    let rest_m = members_from ms i m c.loop-i-test.true at_m in
    let left = numbered_fields (members_view (drop (i + 1) ms)) in
    let measures = measured_first c.loop-i.sizes.now (shape_view m.shape) left (rw rest_m at c.loop-i.invariant.measured) in
    let few : c.loop-i.next + c.split_size-size.result.0 ≤ 4096 =
    omega (arith, c.requires.few, c.split_size-size.ensures.size, measures.size, rw rest_m at c.loop-i.invariant.total, length-append (numbered (shape_view m.shape)) left) in
    search rules

pub compare_rows-split_size-size-requires-clause-within : goal.compare_rows-split_size-size-requires-clause-within
compare_rows-split_size-size-requires-clause-within t c =
    let ms = c.args.members.now in
    let i = c.loop-i.i in
    let m = c.index-members-i.result in
    let at_m : get_or ms i m ≡ m = search rules in
    let rest_m = members_from ms i m c.loop-i-test.true at_m in
    let left = numbered_fields (members_view (drop (i + 1) ms)) in
    let measures = measured_first c.loop-i.sizes.now (shape_view m.shape) left (rw rest_m at c.loop-i.invariant.measured) in
    omega (arith, measures.size, measures.within)

pub compare_member-returns-then-misses : goal.compare_member-returns-then-misses
compare_member-returns-then-misses t c =
    let tree = shape_view c.args.shape.now in
    let long = slots_length 16 (view c.args.a.now) tree c.requires.a in
    sym (ap (fold set.insert c.args.found.now) (filter_none (set.contains c.args.mask.now) c.args.number (slots tree (view c.args.a.now)) (slots tree (view c.args.b.now))
    (λ k from to. c.misses.ensures.none c.if-misses.true k from (omega (arith, to, c.requires.count, long)))))

pub compare-returns-in_default : goal.compare-returns-in_default
compare-returns-in_default t c =
    let tree = shape_view c.args.shape.now in
    let is = unentered c.args.shape.now c.in_default.not-Struct in
    rw (lone_slot tree (view c.args.a.now) is, lone_slot tree (view c.args.b.now) is) c.compare_leaf.ensures
