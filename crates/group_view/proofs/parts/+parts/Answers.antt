use Rattle.std.proofs.Common.{◌≡◌, ◌+◌, ◌<◌, ◌≤◌, ℕ, [], refl, sym, ap, ◌∙◌, subst, length, get_or, drop, rules, arith}
use Rattle.std.specs.FinSet as fin
use Rattle.std.proofs.lemmas.List.{length-set}
use Rattle.pvd_type.specs.Numbers.{numbered, numbered_fields}
use Rattle.pvd_type.specs.Tree.{node, struct}
use Rattle.pvd_value.specs.Data.{Row}
use Rattle.pvd_value.specs.Fits.{row_fits}
use Rattle.pvd_value.specs.View.{view, row_view}
use Rattle.group_view.specs.Seen.{branch_seen, slots_seen}
use Rattle.group_view.specs.Slots.{level}
use Rattle.group_view.specs.Types.{slot_tree, slot_fields}
use Rattle.group_view.specs.Views.{slot_shown, IsRowKept, IsReadyUnder}
use Rattle.group_view.proofs.Merging.{unmarked, merged_same}
use Rattle.group_view.proofs.Walks.{level_is, size_of, size_within}
use Rattle.group_view.proofs.Parting.{within, misses, still_first, few_first, total_rest, ready_first, ready_rest, measures, fits_split, left_new, same_more, kept_more, kept_here, fits_more, fits_here, slots_length, same_all, kept_all, fits_all, level_fits, level_measured}
use Rattle.group_view.proofs.parts.+parts.Goals as goal

-- ---- a slot that is passed over

pub write_slot-returns-then-not-comes_before-clause-shown : goal.write_slot-returns-then-not-comes_before-clause-shown
write_slot-returns-then-not-comes_before-clause-shown t c =
    let s = branch_seen c.args.branch.now in
    let none = misses c.args.mask.now c.args.number (length (numbered (slot_tree s))) c.args.end c.args.first c.requires.end c.requires.first (c.if-not-comes_before.ensures {u = tt}) in
    sym (unmarked (fin.contains c.args.mask.now) c.args.number (slot_tree s) (view c.args.into.now) (slot_shown c.args.states.now s) c.requires.old_fits none)

pub write_slot-returns-then-not-comes_before-clause-kept : goal.write_slot-returns-then-not-comes_before-clause-kept
write_slot-returns-then-not-comes_before-clause-kept t c =
    merged_same (fin.contains c.args.mask.now) c.args.number (slot_tree (branch_seen c.args.branch.now)) (view c.args.into.now) c.requires.old_fits

pub write_slot-returns-then-not-comes_before-clause-next : goal.write_slot-returns-then-not-comes_before-clause-next
write_slot-returns-then-not-comes_before-clause-next t c =
    still_first c.args.mask.now c.args.number (length (numbered (slot_tree (branch_seen c.args.branch.now)))) c.args.end c.args.first c.requires.end c.requires.first (c.if-not-comes_before.ensures {u = tt})

pub write_slot-write_marked-requires : goal.write_slot-write_marked-requires
write_slot-write_marked-requires t c =
    let found = within c.args.mask.now c.args.number (length (numbered (slot_tree (branch_seen c.args.branch.now)))) c.args.end c.args.first c.requires.end c.requires.first (c.if-not-comes_before.ensures {u = tt}) in
    (omega (arith, c.decreases), (c.requires.old_fits, (c.requires.sizes, (c.requires.few, (found, c.requires.ready)))))

-- ---- a structure

pub write_marked-write_level-requires : goal.write_marked-write_level-requires
write_marked-write_level-requires t c =
    let ns = c.in-Level.slots.items in
    let is : branch_seen c.args.branch.now ≡ level c.in-Level.field-0 (slots_seen ns) = ap branch_seen c.in-Level.is ∙ level_is c.in-Level.field-0 c.in-Level.slots in
    let same : slots_seen ns ≡ slots_seen c.deref.result.now = sym (ap slots_seen c.deref.ensures.value) in
    let all : branch_seen c.args.branch.now ≡ level c.in-Level.field-0 (slots_seen c.deref.result.now) = is ∙ ap (level c.in-Level.field-0) same in
    let tree = ap slot_tree all in
    let few : c.args.number + length (numbered (node struct [] (slot_fields (slots_seen c.deref.result.now)))) ≤ 4096 =
    omega (arith, c.requires.few, ap (λ s. length (numbered (slot_tree s))) all) in (
      omega (arith, c.decreases, ap size_of all),
      (
        level_fits (view c.args.into.now) (slot_tree (branch_seen c.args.branch.now)) c.in-Level.field-0 (slots_seen c.deref.result.now) tree c.requires.old_fits,
        (
          level_measured c.args.sizes.now (slot_tree (branch_seen c.args.branch.now)) c.in-Level.field-0 (slots_seen c.deref.result.now) tree c.requires.sizes,
          (few, subst (IsReadyUnder c.args.mask.now c.args.states.now c.args.number) all c.requires.ready),
        ),
      ),
    )

-- ---- slots

pub write_slots-loop-i-init : goal.write_slots-loop-i-init
write_slots-loop-i-init t c = record {
  same = refl;
  kept = λ r h. h;
  fits = λ r h. h;
  left_fits = c.requires.old_fits;
  total = refl;
  measured = c.requires.sizes;
  ready = c.requires.ready;
  first = c.first_from-first.ensures;
  size = slots_length c.args.values.now.items c.args.slots.now c.requires.old_fits;
}

pub write_slots-split_size-size-requires-clause-some : goal.write_slots-split_size-size-requires-clause-some
write_slots-split_size-size-requires-clause-some t c =
    let ns = c.args.slots.now in
    let n = c.index-slots-i.result in
    let at_n : get_or ns c.loop-i.i n ≡ n = search rules in
    (measures c.args.mask.now c.args.states.now ns c.loop-i.i n c.loop-i-test.true at_n c.loop-i.sizes.now c.loop-i.invariant.measured).some

pub write_slots-split_size-size-requires-clause-within : goal.write_slots-split_size-size-requires-clause-within
write_slots-split_size-size-requires-clause-within t c =
    let ns = c.args.slots.now in
    let n = c.index-slots-i.result in
    let at_n : get_or ns c.loop-i.i n ≡ n = search rules in
    let measured = measures c.args.mask.now c.args.states.now ns c.loop-i.i n c.loop-i-test.true at_n c.loop-i.sizes.now c.loop-i.invariant.measured in
    omega (arith, measured.size, measured.within)

pub write_slots-overflow_add-end : goal.write_slots-overflow_add-end
write_slots-overflow_add-end t c =
    let ns = c.args.slots.now in
    let i = c.loop-i.i in
    let n = c.index-slots-i.result in
    let at_n : get_or ns i n ≡ n = search rules in
    let measured = measures c.args.mask.now c.args.states.now ns i n c.loop-i-test.true at_n c.loop-i.sizes.now c.loop-i.invariant.measured in
    let all : c.loop-i.next + length (numbered_fields (slot_fields (slots_seen (drop i ns)))) ≤ 4096 = omega (arith, c.loop-i.invariant.total, c.requires.few) in
    let first = few_first c.args.mask.now c.args.states.now ns i n c.loop-i-test.true at_n c.loop-i.next all in
    let few : c.loop-i.next + c.split_size-size.result.0 ≤ 4096 = omega (arith, first, c.split_size-size.ensures.size, measured.size) in
    search rules

pub write_slots-write_slot-requires : goal.write_slots-write_slot-requires
write_slots-write_slot-requires t c =
    let ns = c.args.slots.now in
    let i = c.loop-i.i in
    let n = c.index-slots-i.result in
    let mask = c.args.mask.now in
    let states = c.args.states.now in
    let in_ns : i < length ns = c.loop-i-test.true in
    let at_n : get_or ns i n ≡ n = search rules in
    let vs = c.loop-i.values.items in
    let in_vs : i < length vs = omega (arith, c.loop-i.invariant.size, in_ns) in
    let v = c.index_mut.result.now in
    let at_v : get_or vs i v ≡ v = sym c.index_mut.ensures.value in
    let measured = measures mask states ns i n in_ns at_n c.loop-i.sizes.now c.loop-i.invariant.measured in
    let size : c.split_size-size.result.0 ≡ length (numbered (slot_tree (branch_seen n.branch))) = c.split_size-size.ensures.size ∙ measured.size in
    let all : c.loop-i.next + length (numbered_fields (slot_fields (slots_seen (drop i ns)))) ≤ 4096 = omega (arith, c.loop-i.invariant.total, c.requires.few) in (
      omega (arith, size_within ns i n in_ns at_n, c.decreases),
      (
        (fits_split mask states ns i n in_ns at_n vs v in_vs at_v c.loop-i.invariant.left_fits).0,
        (
          measured.here,
          (
            few_first mask states ns i n in_ns at_n c.loop-i.next all,
            (
              ap (λ (k : ℕ). c.loop-i.next + k) size,
              (c.loop-i.invariant.first, ready_first mask states ns i n in_ns at_n c.loop-i.next c.loop-i.invariant.ready),
            ),
          ),
        ),
      ),
    )

pub write_slots-returns-in_err-first-clause-kept : goal.write_slots-returns-in_err-first-clause-kept
write_slots-returns-in_err-first-clause-kept t c =
    let ns = c.args.slots.now in
    let i = c.loop-i.i in
    let n = c.index-slots-i.result in
    let mask = c.args.mask.now in
    let states = c.args.states.now in
    let in_ns : i < length ns = c.loop-i-test.true in
    let at_n : get_or ns i n ≡ n = search rules in
    let vs = c.loop-i.values.items in
    let in_vs : i < length vs = omega (arith, c.loop-i.invariant.size, in_ns) in
    let v = c.index_mut.result.now in
    let at_v : get_or vs i v ≡ v = sym c.index_mut.ensures.value in
    let measured = measures mask states ns i n in_ns at_n c.loop-i.sizes.now c.loop-i.invariant.measured in
    let size : c.split_size-size.result.0 ≡ length (numbered (slot_tree (branch_seen n.branch))) = c.split_size-size.ensures.size ∙ measured.size in
    kept_here mask states ns i n in_ns at_n vs v in_vs at_v c.write_slot.new.into c.loop-i.next (c.loop-i.next + c.split_size-size.result.0) (ap (λ (k : ℕ). c.loop-i.next + k) size)
    (λ (q : Row). IsRowKept mask c.args.number (slot_fields (slots_seen ns)) (row_view c.args.values.now.items) q)
    c.write_slot.ensures.kept c.loop-i.invariant.kept (fits_split mask states ns i n in_ns at_n vs v in_vs at_v c.loop-i.invariant.left_fits).1

pub write_slots-returns-in_err-first-clause-fits : goal.write_slots-returns-in_err-first-clause-fits
write_slots-returns-in_err-first-clause-fits t c =
    let ns = c.args.slots.now in
    let i = c.loop-i.i in
    let n = c.index-slots-i.result in
    let mask = c.args.mask.now in
    let states = c.args.states.now in
    let in_ns : i < length ns = c.loop-i-test.true in
    let at_n : get_or ns i n ≡ n = search rules in
    let vs = c.loop-i.values.items in
    let in_vs : i < length vs = omega (arith, c.loop-i.invariant.size, in_ns) in
    let v = c.index_mut.result.now in
    let at_v : get_or vs i v ≡ v = sym c.index_mut.ensures.value in
    fits_here mask states ns i n in_ns at_n vs v in_vs at_v c.write_slot.new.into (slots_seen ns)
    c.write_slot.ensures.fits c.loop-i.invariant.fits (fits_split mask states ns i n in_ns at_n vs v in_vs at_v c.loop-i.invariant.left_fits).1

pub write_slots-loop-i-preserved : goal.write_slots-loop-i-preserved
write_slots-loop-i-preserved t c =
    let ns = c.args.slots.now in
    let i = c.loop-i.i in
    let n = c.index-slots-i.result in
    let mask = c.args.mask.now in
    let states = c.args.states.now in
    let in_ns : i < length ns = c.loop-i-test.true in
    let at_n : get_or ns i n ≡ n = search rules in
    let vs = c.loop-i.values.items in
    let in_vs : i < length vs = omega (arith, c.loop-i.invariant.size, in_ns) in
    let v = c.index_mut.result.now in
    let at_v : get_or vs i v ≡ v = sym c.index_mut.ensures.value in
    let y = c.write_slot.new.into in
    let measured = measures mask states ns i n in_ns at_n c.loop-i.sizes.now c.loop-i.invariant.measured in
    let size : c.split_size-size.result.0 ≡ length (numbered (slot_tree (branch_seen n.branch))) = c.split_size-size.ensures.size ∙ measured.size in
    let k = c.loop-i.next in
    let next = c.loop-i.next + c.split_size-size.result.0 in
    let after : next ≡ k + length (numbered (slot_tree (branch_seen n.branch))) = ap (λ (j : ℕ). c.loop-i.next + j) size in
    let fits = fits_split mask states ns i n in_ns at_n vs v in_vs at_v c.loop-i.invariant.left_fits in
    record {
      same = same_more mask states ns i n in_ns at_n vs v in_vs at_v y k next after _ c.in_ok-first.ensures.shown c.loop-i.invariant.same;
      kept = kept_more mask states ns i n in_ns at_n vs v in_vs at_v y k next after
          (λ (q : Row). IsRowKept mask c.args.number (slot_fields (slots_seen ns)) (row_view c.args.values.now.items) q) c.write_slot.ensures.kept c.loop-i.invariant.kept;
      fits = fits_more mask states ns i n in_ns at_n vs v in_vs at_v y (slots_seen ns) c.write_slot.ensures.fits c.loop-i.invariant.fits;
      left_fits = ap (λ (r : Row). row_fits 16 r (slot_fields (slots_seen (drop (i + 1) ns)))) (left_new mask states ns i n in_ns at_n vs v in_vs at_v y) ∙ fits.1;
      total = total_rest mask states ns i n in_ns at_n k next _ after c.loop-i.invariant.total;
      measured = rw (c.split_size-size.ensures.after, measured.size) measured.after;
      ready = ready_rest mask states ns i n in_ns at_n k next after c.loop-i.invariant.ready;
      first = c.in_ok-first.ensures.next;
      size = length-set vs i y ∙ c.loop-i.invariant.size;
    }

pub write_slots-returns-clause-shown : goal.write_slots-returns-clause-shown
write_slots-returns-clause-shown t c =
    let over : length c.loop-i.values.items ≤ c.loop-i.i = omega (arith, c.loop-i.invariant.size, c.loop-i-test.false) in
    same_all c.args.slots.now c.loop-i.i c.loop-i-test.false c.loop-i.values.items over c.args.mask.now c.args.states.now c.loop-i.next _ c.loop-i.invariant.same

pub write_slots-returns-clause-kept : goal.write_slots-returns-clause-kept
write_slots-returns-clause-kept t c =
    let over : length c.loop-i.values.items ≤ c.loop-i.i = omega (arith, c.loop-i.invariant.size, c.loop-i-test.false) in
    kept_all c.args.slots.now c.loop-i.i c.loop-i-test.false c.loop-i.values.items over c.args.mask.now c.loop-i.next
    (λ (q : Row). IsRowKept c.args.mask.now c.args.number (slot_fields (slots_seen c.args.slots.now)) (row_view c.args.values.now.items) q) c.loop-i.invariant.kept

pub write_slots-returns-clause-fits : goal.write_slots-returns-clause-fits
write_slots-returns-clause-fits t c =
    let over : length c.loop-i.values.items ≤ c.loop-i.i = omega (arith, c.loop-i.invariant.size, c.loop-i-test.false) in
    fits_all c.args.slots.now c.loop-i.i c.loop-i-test.false c.loop-i.values.items over (slots_seen c.args.slots.now) c.loop-i.invariant.fits
