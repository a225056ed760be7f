use Rattle.std.proofs.Common.{◌≡◌, ◌∙◌, ◌+◌, ◌<◌, ◌≤◌, ◌++◌, ℕ, Bool, List, refl, sym, ap, length, map, get_or, take, drop, set, rules, arith}
use Rattle.std.specs.FinSet as fin
use Rattle.std.specs.Vec.Iter.{into_iter_items}
use Rattle.std.proofs.lemmas.List.{length-append, length-set, take_all}
use Rattle.pvd_type.proofs.Sizes.{measured_first}
use Rattle.pvd_type.specs.Tree.{Tree, leaf, node, Fields}
use Rattle.pvd_type.specs.View.{shape_view, members_view}
use Rattle.pvd_type.specs.Numbers.{numbered, numbered_fields, sizes_of}
use Rattle.pvd_type.specs.declared.shape.Member.{Member}
use Rattle.pvd_type.proofs.Counts.{nodes_within}
use Rattle.pvd_type.proofs.Shapes.{unentered}
use Rattle.pvd_value.specs.Data.{Data, Row, more, end}
use Rattle.pvd_value.specs.View.{view, row_view}
use Rattle.pvd_value.specs.Fits.{row_fits}
use Rattle.pvd_value.specs.Merge.{placed, placed_row, left_by, left_by_row}
use Rattle.pvd_value.specs.declared.value.PvValue.{PvValue}
use Rattle.pvd_value.proofs.Rows.{row_from, members_from, rows_split, rows_length, rows_over, joined, joined_push, joined_end}
use Rattle.pvd_value.proofs.SetItems.{drop_set, take_set}
use Rattle.pvd_value.proofs.Placing.{lone_placed, lone_left, placed_none, left_none}
use Rattle.pvd_value.proofs.merging.+place.Goals as goal

first_size : (t : Tree) (rest : List ℕ) → get_or (sizes_of (numbered t) ++ rest) 0 0 ≡ length (numbered t)
first_size (leaf l) rest = refl
first_size (node k id fs) rest = refl

pub place-returns-then-misses-clause-value : goal.place-returns-then-misses-clause-value
place-returns-then-misses-clause-value t c =
    let tree = shape_view c.args.shape.now in
    let size : get_or c.args.sizes.now 0 0 ≡ length (numbered tree) = ap (λ (xs : List ℕ). get_or xs 0 0) c.requires.sizes.front ∙ first_size tree c.requires.sizes.rest in
    sym (placed_none 16 (fin.contains c.args.mask.now) c.args.number tree (view c.args.into.now) (map view (into_iter_items c.args.copies.now)) c.requires.into
    (λ k from to. c.misses.ensures.none c.if-misses.true k from (omega (arith, to, size))))

pub place-returns-then-misses-clause-rest : goal.place-returns-then-misses-clause-rest
place-returns-then-misses-clause-rest t c =
    let tree = shape_view c.args.shape.now in
    let size : get_or c.args.sizes.now 0 0 ≡ length (numbered tree) = ap (λ (xs : List ℕ). get_or xs 0 0) c.requires.sizes.front ∙ first_size tree c.requires.sizes.rest in
    sym (left_none (fin.contains c.args.mask.now) c.args.number tree (map view (into_iter_items c.args.copies.now))
    (λ k from to. c.misses.ensures.none c.if-misses.true k from (omega (arith, to, size))))

pub place-returns-in_default : goal.place-returns-in_default
place-returns-in_default t c =
    let tree = shape_view c.args.shape.now in
    let is = unentered c.args.shape.now c.in_default.not-Struct in
    let mask : ℕ → Bool = fin.contains c.args.mask.now in
    let copies = map view (into_iter_items c.args.copies.now) in
    record {
      value = c.place_leaf.ensures.value ∙ sym (lone_placed mask c.args.number tree (view c.args.into.now) copies is);
      rest = c.place_leaf.ensures.rest ∙ sym (lone_left mask c.args.number tree copies is);
    }

pub place_row-overflow_add-next : goal.place_row-overflow_add-next
place_row-overflow_add-next t c =
    let ms = c.args.members.now in
    let i = c.loop-i.i in
    let m = c.index-members-i.result in
    let at_m : get_or ms i m ≡ m = search rules in
    let rest_m = members_from ms i m c.loop-i-test.true at_m in
    let left = numbered_fields (members_view (drop (i + 1) ms)) in
    let measures = measured_first c.loop-i.sizes.now (shape_view m.shape) left (rw rest_m at c.loop-i.invariant.measured) in
    let few : c.loop-i.next + c.split_size-size.result.0 ≤ 4096 =
    omega (arith, c.requires.few, c.split_size-size.ensures.size, measures.size, rw rest_m at c.loop-i.invariant.total, length-append (numbered (shape_view m.shape)) left) in
    search rules

pub place_row-split_size-size-requires-clause-within : goal.place_row-split_size-size-requires-clause-within
place_row-split_size-size-requires-clause-within t c =
    let ms = c.args.members.now in
    let i = c.loop-i.i in
    let m = c.index-members-i.result in
    let at_m : get_or ms i m ≡ m = search rules in
    let rest_m = members_from ms i m c.loop-i-test.true at_m in
    let left = numbered_fields (members_view (drop (i + 1) ms)) in
    let measures = measured_first c.loop-i.sizes.now (shape_view m.shape) left (rw rest_m at c.loop-i.invariant.measured) in
    omega (arith, measures.size, measures.within)

pub place_row-place-requires : goal.place_row-place-requires
place_row-place-requires t c =
    let ms = c.args.members.now in
    let i = c.loop-i.i in
    let m = c.index-members-i.result in
    let in_ms : i < length ms = c.loop-i-test.true in
    let at_m : get_or ms i m ≡ m = search rules in
    let vs = c.loop-i.into.items in
    let in_vs : i < length vs = omega (arith, rows_length 16 c.args.into.now.items ms c.requires.into, c.loop-i.invariant.size, in_ms) in
    let v = c.index_mut.result.now in
    let at_v : get_or vs i v ≡ v = sym c.index_mut.ensures.value in
    let fit = rows_split 16 vs ms i v m in_vs in_ms at_v at_m c.loop-i.invariant.fits in
    let rest_m = members_from ms i m in_ms at_m in
    let left = numbered_fields (members_view (drop (i + 1) ms)) in
    let measures = measured_first c.loop-i.sizes.now (shape_view m.shape) left (rw rest_m at c.loop-i.invariant.measured) in
    let few : c.loop-i.next + length (numbered (shape_view m.shape)) ≤ 4096 =
    omega (arith, c.requires.few, rw rest_m at c.loop-i.invariant.total, length-append (numbered (shape_view m.shape)) left) in
    (omega (arith, nodes_within ms i m in_ms at_m, c.decreases), (fit.0, (measures.here, few)))

pub place_row-returns-clause-values : goal.place_row-returns-clause-values
place_row-returns-clause-values t c =
    let ms = c.args.members.now in
    let i = c.loop-i.i in
    let vs = c.loop-i.into.items in
    let size : length vs ≡ length ms = c.loop-i.invariant.size ∙ rows_length 16 c.args.into.now.items ms c.requires.into in
    let over = rows_over vs ms i size c.loop-i-test.false in
    let whole : take i vs ≡ vs = take_all i vs (omega (arith, size, c.loop-i-test.false)) in
    let mask : ℕ → Bool = fin.contains c.args.mask.now in
    let copies = map view (into_iter_items c.loop-i.copies) in
    let last : joined (row_view (take i vs)) (placed_row mask c.loop-i.next (members_view (drop i ms)) (row_view (drop i vs)) copies) ≡ joined (row_view vs) end =
    λ j. joined (row_view (whole j)) (placed_row mask c.loop-i.next (over.1 j) (over.0 j) copies) in
    sym (joined_end vs) ∙ sym last ∙ c.loop-i.invariant.same

pub place_row-returns-clause-rest : goal.place_row-returns-clause-rest
place_row-returns-clause-rest t c =
    let ms = c.args.members.now in
    let i = c.loop-i.i in
    let vs = c.loop-i.into.items in
    let size : length vs ≡ length ms = c.loop-i.invariant.size ∙ rows_length 16 c.args.into.now.items ms c.requires.into in
    let over = rows_over vs ms i size c.loop-i-test.false in
    let copies = map view (into_iter_items c.loop-i.copies) in
    sym (ap (λ (fs : Fields). left_by_row (fin.contains c.args.mask.now) c.loop-i.next fs copies) over.1) ∙ c.loop-i.invariant.rest

-- one member more has its leaves
placed_on : (mask : ℕ → Bool) (i n next : ℕ) (m : Member) (ms : List Member) (vs : List PvValue) (v y : PvValue) (copies left : List Data) (whole : Row)
    → i < length vs → i < length ms → get_or vs i v ≡ v → get_or ms i m ≡ m
    → view y ≡ placed mask n (shape_view m.shape) (view v) copies → left ≡ left_by mask n (shape_view m.shape) copies → next ≡ n + length (numbered (shape_view m.shape))
    → joined (row_view (take i vs)) (placed_row mask n (members_view (drop i ms)) (row_view (drop i vs)) copies) ≡ whole
    → joined (row_view (take (i + 1) (set vs i y))) (placed_row mask next (members_view (drop (i + 1) ms)) (row_view (drop (i + 1) (set vs i y))) left) ≡ whole
placed_on mask i n next m ms vs v y copies left whole in_vs in_ms at_v at_m made rest after same =
    let rest_m = members_from ms i m in_ms at_m in
    let rest_v = row_from vs i v in_vs at_v in
    let front = take i vs in
    let rest_ms = members_view (drop (i + 1) ms) in
    let v_left : row_view (drop (i + 1) (set vs i y)) ≡ row_view (drop (i + 1) vs) = ap row_view (drop_set vs i y) in
    (λ j. joined (row_view (take_set vs i y in_vs j)) (placed_row mask next rest_ms (v_left j) left))
    ∙ joined_push front y (placed_row mask next rest_ms (row_view (drop (i + 1) vs)) left)
    ∙ (λ j. joined (row_view front) (more (made j) (placed_row mask (after j) rest_ms (row_view (drop (i + 1) vs)) (rest j))))
    ∙ rw (rest_m, rest_v) at same

pub place_row-loop-i-preserved : goal.place_row-loop-i-preserved
place_row-loop-i-preserved t c =
    let ms = c.args.members.now in
    let i = c.loop-i.i in
    let m = c.index-members-i.result in
    let in_ms : i < length ms = c.loop-i-test.true in
    let at_m : get_or ms i m ≡ m = search rules in
    let vs = c.loop-i.into.items in
    let in_vs : i < length vs = omega (arith, rows_length 16 c.args.into.now.items ms c.requires.into, c.loop-i.invariant.size, in_ms) in
    let v = c.index_mut.result.now in
    let at_v : get_or vs i v ≡ v = sym c.index_mut.ensures.value in
    let fit = rows_split 16 vs ms i v m in_vs in_ms at_v at_m c.loop-i.invariant.fits in
    let rest_m = members_from ms i m in_ms at_m in
    let left = numbered_fields (members_view (drop (i + 1) ms)) in
    let mask : ℕ → Bool = fin.contains c.args.mask.now in
    let measures = measured_first c.loop-i.sizes.now (shape_view m.shape) left (rw rest_m at c.loop-i.invariant.measured) in
    let size : c.split_size-size.result.0 ≡ length (numbered (shape_view m.shape)) = c.split_size-size.ensures.size ∙ measures.size in
    let after : c.loop-i.next + c.split_size-size.result.0 ≡ c.loop-i.next + length (numbered (shape_view m.shape)) = ap (λ (n : ℕ). c.loop-i.next + n) size in
    let y = c.place.new.into in
    let copies = map view (into_iter_items c.loop-i.copies) in
    let v_left : row_view (drop (i + 1) (set vs i y)) ≡ row_view (drop (i + 1) vs) = ap row_view (drop_set vs i y) in
    let rest_ms = members_view (drop (i + 1) ms) in
    record {
      same = placed_on mask i c.loop-i.next (c.loop-i.next + c.split_size-size.result.0) m ms vs v y copies (map view (into_iter_items c.place.new.copies)) _ in_vs in_ms at_v at_m
          c.place.ensures.value c.place.ensures.rest after c.loop-i.invariant.same;
      rest = (λ j. left_by_row mask (after j) rest_ms (c.place.ensures.rest j)) ∙ rw rest_m at c.loop-i.invariant.rest;
      total = omega (arith, size, rw rest_m at c.loop-i.invariant.total, length-append (numbered (shape_view m.shape)) left);
      measured = rw (c.split_size-size.ensures.after, measures.size) measures.after;
      fits = ap (λ (r : Row). row_fits 16 r rest_ms) v_left ∙ fit.1;
      size = length-set vs i y ∙ c.loop-i.invariant.size;
    }
