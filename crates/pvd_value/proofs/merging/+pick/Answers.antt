use Rattle.std.proofs.Common.{◌≡◌, ◌∙◌, ◌+◌, ◌*◌, ◌<◌, ◌≤◌, [], ◌++◌, ℕ, Bool, List, refl, subst, sym, ap, length, map, get_or, drop, rules, arith, append_assoc}
use Rattle.std.specs.FinSet as set
use Rattle.std.proofs.lemmas.List.{length-append, take_rest, append-nil}
use Rattle.pvd_type.proofs.Sizes.{measured_first, measured_inside}
use Rattle.pvd_type.specs.Tree.{Tree, leaf, node, struct}
use Rattle.pvd_type.specs.View.{shape_view, members_view}
use Rattle.pvd_type.specs.Numbers.{numbered, numbered_fields, nodes, nodes_in, sizes_of, IsMeasured}
use Rattle.pvd_type.specs.declared.shape.Member.{Member}
use Rattle.pvd_type.specs.declared.shape.Node.{Node, out-Node}
use Rattle.pvd_type.proofs.Counts.{nodes_within}
use Rattle.pvd_type.proofs.Walks.{struct_is}
use Rattle.pvd_type.proofs.Shapes.{unentered}
use Rattle.pvd_value.specs.Data.{Data}
use Rattle.pvd_value.specs.View.{view, row_view}
use Rattle.pvd_value.specs.Fits.{fits_of}
use Rattle.pvd_value.specs.Merge.{picked, picked_row}
use Rattle.pvd_value.proofs.Rows.{row_from, members_from, rows_split, rows_length, rows_over}
use Rattle.pvd_value.proofs.Slots.{row_of_struct}
use Rattle.pvd_value.proofs.Placing.{lone_picked, picked_none}
use Rattle.pvd_value.proofs.merging.+pick.Goals as goal

pub pick-pick_row-requires : goal.pick-pick_row-requires
pick-pick_row-requires t c =
    let n = out-Node c.in-Struct.node.value in
    let listed : c.deref-in-Struct.result.now ≡ n.members.items = c.deref-in-Struct.ensures.value ∙ ap (λ (x : Node). (out-Node x).members.items) c.deref.ensures in
    let fs = members_view n.members.items in
    let is : shape_view c.args.shape.now ≡ node struct n.id fs = ap shape_view c.in-Struct.is ∙ struct_is c.in-Struct.node in
    let fits = row_of_struct 16 (view c.args.from.now) n.id fs (ap (fits_of 16 (view c.args.from.now)) (sym is) ∙ c.requires.from) in
    let fewer : 2 * nodes_in (members_view c.deref-in-Struct.result.now) + 1 < 2 * nodes (shape_view c.args.shape.now) =
    omega (arith, ap nodes is, ap (λ (xs : List Member). nodes_in (members_view xs)) listed) in
    let few : c.args.number + 1 + length (numbered_fields (members_view c.deref-in-Struct.result.now)) ≤ 4096 =
    omega (arith, c.requires.few, ap (λ (x : Tree). length (numbered x)) is, ap (λ (xs : List Member). length (numbered_fields (members_view xs))) listed) in
    let inside = measured_inside c.args.sizes.now n.id fs (subst (λ (x : Tree). IsMeasured c.args.sizes.now (numbered x)) is c.requires.sizes) in
    (omega (arith, fewer, c.decreases), (rw (c.members-values.ensures, listed) fits, (rw (listed, take_rest c.args.sizes.now 1) inside, few)))

pub pick_row-pick-requires : goal.pick_row-pick-requires
pick_row-pick-requires t c =
    let ms = c.args.members.now in
    let i = c.loop-i.i in
    let m = c.index-members-i.result in
    let in_ms : i < length ms = c.loop-i-test.true in
    let at_m : get_or ms i m ≡ m = search rules in
    let vs = c.args.from.now in
    let in_vs : i < length vs = omega (arith, rows_length 16 vs ms c.requires.from, in_ms) in
    let v = c.index-from-i.result in
    let at_v : get_or vs i v ≡ v = search rules in
    let fit = rows_split 16 vs ms i v m in_vs in_ms at_v at_m c.loop-i.invariant.fits in
    let rest_m = members_from ms i m in_ms at_m in
    let left = numbered_fields (members_view (drop (i + 1) ms)) in
    let measures = measured_first c.loop-i.sizes.now (shape_view m.shape) left (rw rest_m at c.loop-i.invariant.measured) in
    let few : c.loop-i.next + length (numbered (shape_view m.shape)) ≤ 4096 =
    omega (arith, c.requires.few, rw rest_m at c.loop-i.invariant.total, length-append (numbered (shape_view m.shape)) left) in
    (omega (arith, nodes_within ms i m in_ms at_m, c.decreases), (fit.0, (measures.here, few)))

pub pick_row-returns : goal.pick_row-returns
pick_row-returns t c =
    let ms = c.args.members.now in
    let vs = c.args.from.now in
    let i = c.loop-i.i in
    let over = rows_over vs ms i (rows_length 16 vs ms c.requires.from) c.loop-i-test.false in
    let copies = map view c.loop-i.copies.items in
    let mask : ℕ → Bool = set.contains c.args.mask.now in
    let rest : copies ++ picked_row mask c.loop-i.next (members_view (drop i ms)) (row_view (drop i vs)) ≡ copies ++ [] =
    λ j. copies ++ picked_row mask c.loop-i.next (over.1 j) (over.0 j) in
    sym (append-nil copies) ∙ sym rest ∙ c.loop-i.invariant.same

pub pick_row-loop-i-preserved : goal.pick_row-loop-i-preserved
pick_row-loop-i-preserved t c =
    let ms = c.args.members.now in
    let i = c.loop-i.i in
    let m = c.index-members-i.result in
    let in_ms : i < length ms = c.loop-i-test.true in
    let at_m : get_or ms i m ≡ m = search rules in
    let vs = c.args.from.now in
    let in_vs : i < length vs = omega (arith, rows_length 16 vs ms c.requires.from, in_ms) in
    let v = c.index-from-i.result in
    let at_v : get_or vs i v ≡ v = search rules in
    let fit = rows_split 16 vs ms i v m in_vs in_ms at_v at_m c.loop-i.invariant.fits in
    let rest_m = members_from ms i m in_ms at_m in
    let rest_v = row_from vs i v in_vs at_v in
    let left = numbered_fields (members_view (drop (i + 1) ms)) in
    let inv = rw (rest_m, rest_v) at c.loop-i.invariant.same in
    let measures = measured_first c.loop-i.sizes.now (shape_view m.shape) left (rw rest_m at c.loop-i.invariant.measured) in
    let size : c.split_size-size.result.0 ≡ length (numbered (shape_view m.shape)) = c.split_size-size.ensures.size ∙ measures.size in
    let mask : ℕ → Bool = set.contains c.args.mask.now in
    let copies = map view c.loop-i.copies.items in
    let mine = picked mask c.loop-i.next (shape_view m.shape) (view v) in
    let others = λ (k : ℕ). picked_row mask (c.loop-i.next + k) (members_view (drop (i + 1) ms)) (row_view (drop (i + 1) vs)) in
    record {
      same = (λ j. c.in_ok-pick.ensures j ++ others (size j))
          ∙ append_assoc copies mine (others (length (numbered (shape_view m.shape)))) ∙ inv;
      total = omega (arith, size, rw rest_m at c.loop-i.invariant.total, length-append (numbered (shape_view m.shape)) left);
      measured = rw (c.split_size-size.ensures.after, measures.size) measures.after;
      fits = fit.1;
    }

pub pick_row-overflow_add-next : goal.pick_row-overflow_add-next
pick_row-overflow_add-next t c =
    let ms = c.args.members.now in
    let i = c.loop-i.i in
    let m = c.index-members-i.result in
    let at_m : get_or ms i m ≡ m = search rules in
    let rest_m = members_from ms i m c.loop-i-test.true at_m in
    let left = numbered_fields (members_view (drop (i + 1) ms)) in
    let measures = measured_first c.loop-i.sizes.now (shape_view m.shape) left (rw rest_m at c.loop-i.invariant.measured) in
    let few : c.loop-i.next + c.split_size-size.result.0 ≤ 4096 =
    omega (arith, c.requires.few, c.split_size-size.ensures.size, measures.size, rw rest_m at c.loop-i.invariant.total, length-append (numbered (shape_view m.shape)) left) in
    search rules

pub pick_row-split_size-size-requires-clause-within : goal.pick_row-split_size-size-requires-clause-within
pick_row-split_size-size-requires-clause-within t c =
    let ms = c.args.members.now in
    let i = c.loop-i.i in
    let m = c.index-members-i.result in
    let at_m : get_or ms i m ≡ m = search rules in
    let rest_m = members_from ms i m c.loop-i-test.true at_m in
    let left = numbered_fields (members_view (drop (i + 1) ms)) in
    let measures = measured_first c.loop-i.sizes.now (shape_view m.shape) left (rw rest_m at c.loop-i.invariant.measured) in
    omega (arith, measures.size, measures.within)

first_size : (t : Tree) (rest : List ℕ) → get_or (sizes_of (numbered t) ++ rest) 0 0 ≡ length (numbered t)
first_size (leaf l) rest = refl
first_size (node k id fs) rest = refl

pub pick-returns-then-misses : goal.pick-returns-then-misses
pick-returns-then-misses t c =
    let tree = shape_view c.args.shape.now in
    let size : get_or c.args.sizes.now 0 0 ≡ length (numbered tree) = ap (λ (xs : List ℕ). get_or xs 0 0) c.requires.sizes.front ∙ first_size tree c.requires.sizes.rest in
    let copies = map view c.args.copies.now.items in
    let none = picked_none (set.contains c.args.mask.now) c.args.number tree (view c.args.from.now) (λ k from to. c.misses.ensures.none c.if-misses.true k from (omega (arith, to, size))) in
    sym (ap (λ (ds : List Data). copies ++ ds) none ∙ append-nil copies)

pub pick-returns-in_default : goal.pick-returns-in_default
pick-returns-in_default t c =
    let tree = shape_view c.args.shape.now in
    let is = unentered c.args.shape.now c.in_default.not-Struct in
    rw (lone_picked (set.contains c.args.mask.now) c.args.number tree (view c.args.from.now) is) c.pick_leaf.ensures
