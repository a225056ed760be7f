use Rattle.std.proofs.Common.{◌≡◌, ◌∙◌, ◌+◌, ◌<◌, ◌≤◌, ℕ, Bool, true, false, cond, List, sym, ap, length, get_or, take, drop, set, rules, arith}
use Rattle.std.specs.FinSet as fin
use Rattle.std.proofs.lemmas.List.{length-append, length-set, take_all}
use Rattle.pvd_type.specs.View.{shape_view, members_view}
use Rattle.pvd_type.specs.Numbers.{numbered, numbered_fields}
use Rattle.pvd_type.specs.declared.shape.Member.{Member}
use Rattle.pvd_type.proofs.Counts.{nodes_within}
use Rattle.pvd_type.proofs.Sizes.{measured_first}
use Rattle.pvd_value.specs.Data.{Data, Row, more, end}
use Rattle.pvd_value.specs.View.{view, row_view}
use Rattle.pvd_value.specs.Fits.{row_fits}
use Rattle.pvd_value.specs.Merge.{merged, merged_row}
use Rattle.pvd_value.specs.declared.value.PvValue.{PvValue}
use Rattle.pvd_value.proofs.Rows.{row_from, members_from, rows_split, rows_length, rows_over, joined, joined_push, joined_end}
use Rattle.pvd_value.proofs.SetItems.{drop_set, take_set}
use Rattle.pvd_value.proofs.Unmarked.{merged_none}
use Rattle.pvd_type.proofs.Shapes.{unentered}
use Rattle.pvd_value.proofs.Slots.{lone_merged}
use Rattle.pvd_value.proofs.moving.+swap.Goals as goal

pub swap_member-returns-then-misses-clause-value : goal.swap_member-returns-then-misses-clause-value
swap_member-returns-then-misses-clause-value t c =
    sym (merged_none 16 (fin.contains c.args.mask.now) c.args.number (shape_view c.args.shape.now) (view c.args.into.now) (view c.args.from.now) c.requires.into c.requires.from
    (λ k from to. c.misses.ensures.none c.if-misses.true k from (omega (arith, to, c.requires.count))))

pub swap_member-returns-then-misses-clause-rest : goal.swap_member-returns-then-misses-clause-rest
swap_member-returns-then-misses-clause-rest t c =
    sym (merged_none 16 (fin.contains c.args.mask.now) c.args.number (shape_view c.args.shape.now) (view c.args.from.now) (view c.args.into.now) c.requires.from c.requires.into
    (λ k from to. c.misses.ensures.none c.if-misses.true k from (omega (arith, to, c.requires.count))))

pub swap_row-overflow_add-next : goal.swap_row-overflow_add-next
swap_row-overflow_add-next t c =
    let ms = c.args.members.now in
    let i = c.loop-i.i in
    let m = c.index-members-i.result in
    let at_m : get_or ms i m ≡ m = search rules in
    let rest_m = members_from ms i m c.loop-i-test.true at_m in
    let left = numbered_fields (members_view (drop (i + 1) ms)) in
    let measures = measured_first c.loop-i.sizes.now (shape_view m.shape) left (rw rest_m at c.loop-i.invariant.measured) in
    let few : c.loop-i.next + c.split_size-size.result.0 ≤ 4096 =
    omega (arith, c.requires.few, c.split_size-size.ensures.size, measures.size, rw rest_m at c.loop-i.invariant.total, length-append (numbered (shape_view m.shape)) left) in
    search rules

-- at the end of the rows all members are merged
ended : (mask : ℕ → Bool) (i n : ℕ) (ms : List Member) (vs : List PvValue) (others : Row) → length vs ≡ length ms → length ms ≤ i
    → row_view vs ≡ joined (row_view (take i vs)) (merged_row mask n (members_view (drop i ms)) (row_view (drop i vs)) others)
ended mask i n ms vs others size past =
    let over = rows_over vs ms i size past in
    let whole : take i vs ≡ vs = take_all i vs (omega (arith, size, past)) in
    let last : joined (row_view (take i vs)) (merged_row mask n (members_view (drop i ms)) (row_view (drop i vs)) others) ≡ joined (row_view vs) end =
    λ j. joined (row_view (whole j)) (merged_row mask n (over.1 j) (over.0 j) others) in
    sym (joined_end vs) ∙ sym last

-- one member more is merged
merged_on : (mask : ℕ → Bool) (i n next : ℕ) (m : Member) (ms : List Member) (vs : List PvValue) (v y : PvValue) (others left : Row) (d : Data) (whole : Row)
    → i < length vs → i < length ms → get_or vs i v ≡ v → get_or ms i m ≡ m → others ≡ more d left
    → view y ≡ merged mask n (shape_view m.shape) (view v) d → next ≡ n + length (numbered (shape_view m.shape))
    → joined (row_view (take i vs)) (merged_row mask n (members_view (drop i ms)) (row_view (drop i vs)) others) ≡ whole
    → joined (row_view (take (i + 1) (set vs i y))) (merged_row mask next (members_view (drop (i + 1) ms)) (row_view (drop (i + 1) (set vs i y))) left) ≡ whole
merged_on mask i n next m ms vs v y others left d whole in_vs in_ms at_v at_m other made after same =
    let rest_m = members_from ms i m in_ms at_m in
    let rest_v = row_from vs i v in_vs at_v in
    let front = take i vs in
    let rest_ms = members_view (drop (i + 1) ms) in
    let v_left : row_view (drop (i + 1) (set vs i y)) ≡ row_view (drop (i + 1) vs) = ap row_view (drop_set vs i y) in
    let rest = merged_row mask next rest_ms (row_view (drop (i + 1) vs)) left in
    (λ j. joined (row_view (take_set vs i y in_vs j)) (merged_row mask next rest_ms (v_left j) left))
    ∙ joined_push front y rest
    ∙ ap (λ (x : Data). joined (row_view front) (more x rest)) made
    ∙ ap (λ (k : ℕ). joined (row_view front) (more (merged mask n (shape_view m.shape) (view v) d) (merged_row mask k rest_ms (row_view (drop (i + 1) vs)) left))) after
    ∙ rw (rest_m, rest_v, other) at same

pub swap_row-swap_member-requires : goal.swap_row-swap_member-requires
swap_row-swap_member-requires t c =
    let ms = c.args.members.now in
    let i = c.loop-i.i in
    let m = c.index-members-i.result in
    let in_ms : i < length ms = c.loop-i-test.true in
    let at_m : get_or ms i m ≡ m = search rules in
    let olds = c.loop-i.old.items in
    let in_old : i < length olds = omega (arith, rows_length 16 c.args.old.now.items ms c.requires.old, c.loop-i.invariant.old_size, in_ms) in
    let old = c.index_mut.result.now in
    let at_old : get_or olds i old ≡ old = sym c.index_mut.ensures.value in
    let fit_old = rows_split 16 olds ms i old m in_old in_ms at_old at_m c.loop-i.invariant.old_fits in
    let news = c.loop-i.new.items in
    let in_new : i < length news = omega (arith, rows_length 16 c.args.new.now.items ms c.requires.new, c.loop-i.invariant.new_size, in_ms) in
    let new = c.index_mut-in-loop-i.result.now in
    let at_new : get_or news i new ≡ new = sym c.index_mut-in-loop-i.ensures.value in
    let fit_new = rows_split 16 news ms i new m in_new in_ms at_new at_m c.loop-i.invariant.new_fits in
    let rest_m = members_from ms i m in_ms at_m in
    let left = numbered_fields (members_view (drop (i + 1) ms)) in
    let measures = measured_first c.loop-i.sizes.now (shape_view m.shape) left (rw rest_m at c.loop-i.invariant.measured) in
    let few : c.loop-i.next + length (numbered (shape_view m.shape)) ≤ 4096 =
    omega (arith, c.requires.few, rw rest_m at c.loop-i.invariant.total, length-append (numbered (shape_view m.shape)) left) in
    let count : c.split_size-size.result.0 ≡ length (numbered (shape_view m.shape)) = c.split_size-size.ensures.size ∙ measures.size in
    (omega (arith, nodes_within ms i m in_ms at_m, c.decreases), (fit_old.0, (fit_new.0, (measures.here, (count, few)))))

pub swap_row-returns-clause-values : goal.swap_row-returns-clause-values
swap_row-returns-clause-values t c =
    let size : length c.loop-i.old.items ≡ length c.args.members.now = c.loop-i.invariant.old_size ∙ rows_length 16 c.args.old.now.items c.args.members.now c.requires.old in
    ended (fin.contains c.args.mask.now) c.loop-i.i c.loop-i.next c.args.members.now c.loop-i.old.items (row_view (drop c.loop-i.i c.loop-i.new.items)) size c.loop-i-test.false ∙ c.loop-i.invariant.same

pub swap_row-returns-clause-rest : goal.swap_row-returns-clause-rest
swap_row-returns-clause-rest t c =
    let size : length c.loop-i.new.items ≡ length c.args.members.now = c.loop-i.invariant.new_size ∙ rows_length 16 c.args.new.now.items c.args.members.now c.requires.new in
    ended (fin.contains c.args.mask.now) c.loop-i.i c.loop-i.next c.args.members.now c.loop-i.new.items (row_view (drop c.loop-i.i c.loop-i.old.items)) size c.loop-i-test.false ∙ c.loop-i.invariant.other

pub swap_row-loop-i-preserved : goal.swap_row-loop-i-preserved
swap_row-loop-i-preserved t c =
    let ms = c.args.members.now in
    let i = c.loop-i.i in
    let m = c.index-members-i.result in
    let in_ms : i < length ms = c.loop-i-test.true in
    let at_m : get_or ms i m ≡ m = search rules in
    let olds = c.loop-i.old.items in
    let in_old : i < length olds = omega (arith, rows_length 16 c.args.old.now.items ms c.requires.old, c.loop-i.invariant.old_size, in_ms) in
    let old = c.index_mut.result.now in
    let at_old : get_or olds i old ≡ old = sym c.index_mut.ensures.value in
    let fit_old = rows_split 16 olds ms i old m in_old in_ms at_old at_m c.loop-i.invariant.old_fits in
    let news = c.loop-i.new.items in
    let in_new : i < length news = omega (arith, rows_length 16 c.args.new.now.items ms c.requires.new, c.loop-i.invariant.new_size, in_ms) in
    let new = c.index_mut-in-loop-i.result.now in
    let at_new : get_or news i new ≡ new = sym c.index_mut-in-loop-i.ensures.value in
    let fit_new = rows_split 16 news ms i new m in_new in_ms at_new at_m c.loop-i.invariant.new_fits in
    let rest_m = members_from ms i m in_ms at_m in
    let rest_old = row_from olds i old in_old at_old in
    let rest_new = row_from news i new in_new at_new in
    let left = numbered_fields (members_view (drop (i + 1) ms)) in
    let mask : ℕ → Bool = fin.contains c.args.mask.now in
    let measures = measured_first c.loop-i.sizes.now (shape_view m.shape) left (rw rest_m at c.loop-i.invariant.measured) in
    let size : c.split_size-size.result.0 ≡ length (numbered (shape_view m.shape)) = c.split_size-size.ensures.size ∙ measures.size in
    let after : c.loop-i.next + c.split_size-size.result.0 ≡ c.loop-i.next + length (numbered (shape_view m.shape)) = ap (λ (n : ℕ). c.loop-i.next + n) size in
    let y = c.swap_member.new.into in
    let z = c.swap_member.new.from in
    let new_left : row_view (drop (i + 1) (set news i z)) ≡ row_view (drop (i + 1) news) = ap row_view (drop_set news i z) in
    let old_left : row_view (drop (i + 1) (set olds i y)) ≡ row_view (drop (i + 1) olds) = ap row_view (drop_set olds i y) in
    let rest_ms = members_view (drop (i + 1) ms) in
    record {
      same =
          ap (λ (r : Row). joined (row_view (take (i + 1) (set olds i y))) (merged_row mask (c.loop-i.next + c.split_size-size.result.0) rest_ms (row_view (drop (i + 1) (set olds i y))) r)) new_left
          ∙ merged_on mask i c.loop-i.next (c.loop-i.next + c.split_size-size.result.0) m ms olds old y (row_view (drop i news)) (row_view (drop (i + 1) news)) (view new) _ in_old in_ms at_old at_m rest_new c.swap_member.ensures.value after c.loop-i.invariant.same;
      other =
          ap (λ (r : Row). joined (row_view (take (i + 1) (set news i z))) (merged_row mask (c.loop-i.next + c.split_size-size.result.0) rest_ms (row_view (drop (i + 1) (set news i z))) r)) old_left
          ∙ merged_on mask i c.loop-i.next (c.loop-i.next + c.split_size-size.result.0) m ms news new z (row_view (drop i olds)) (row_view (drop (i + 1) olds)) (view old) _ in_new in_ms at_new at_m rest_old c.swap_member.ensures.rest after c.loop-i.invariant.other;
      total = omega (arith, size, rw rest_m at c.loop-i.invariant.total, length-append (numbered (shape_view m.shape)) left);
      measured = rw (c.split_size-size.ensures.after, measures.size) measures.after;
      old_fits = ap (λ (r : Row). row_fits 16 r rest_ms) old_left ∙ fit_old.1;
      new_fits = ap (λ (r : Row). row_fits 16 r rest_ms) new_left ∙ fit_new.1;
      old_size = length-set olds i y ∙ c.loop-i.invariant.old_size;
      new_size = length-set news i z ∙ c.loop-i.invariant.new_size;
    }

pub swap_row-split_size-size-requires-clause-within : goal.swap_row-split_size-size-requires-clause-within
swap_row-split_size-size-requires-clause-within t c =
    let ms = c.args.members.now in
    let i = c.loop-i.i in
    let m = c.index-members-i.result in
    let at_m : get_or ms i m ≡ m = search rules in
    let rest_m = members_from ms i m c.loop-i-test.true at_m in
    let left = numbered_fields (members_view (drop (i + 1) ms)) in
    let measures = measured_first c.loop-i.sizes.now (shape_view m.shape) left (rw rest_m at c.loop-i.invariant.measured) in
    omega (arith, measures.size, measures.within)

-- a leaf is exchanged where it is marked

pub swap-returns-then-contains : goal.swap-returns-then-contains
swap-returns-then-contains t c =
    let tree = shape_view c.args.shape.now in
    let is = unentered c.args.shape.now c.in_default.not-Struct in
    let mask : ℕ → Bool = fin.contains c.args.mask.now in
    let a = view c.args.into.now in
    let b = view c.args.from.now in
    let marked : mask c.args.number ≡ true = sym (c.if-contains.ensures {u = tt}) in
    record {
      value = ap view c.swap.ensures.x_after ∙ sym (lone_merged mask c.args.number tree a b is ∙ ap (λ (m : Bool). cond m b a) marked);
      rest = ap view c.swap.ensures.y_after ∙ sym (lone_merged mask c.args.number tree b a is ∙ ap (λ (m : Bool). cond m a b) marked);
    }

pub swap-returns-else-contains : goal.swap-returns-else-contains
swap-returns-else-contains t c =
    let tree = shape_view c.args.shape.now in
    let is = unentered c.args.shape.now c.in_default.not-Struct in
    let mask : ℕ → Bool = fin.contains c.args.mask.now in
    let a = view c.args.into.now in
    let b = view c.args.from.now in
    let unmarked : mask c.args.number ≡ false = sym (c.if-contains.ensures {u = tt}) in
    record {
      value = sym (lone_merged mask c.args.number tree a b is ∙ ap (λ (m : Bool). cond m b a) unmarked);
      rest = sym (lone_merged mask c.args.number tree b a is ∙ ap (λ (m : Bool). cond m a b) unmarked);
    }
