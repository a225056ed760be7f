-- The leaves of a mask alone, of what slots show, written into values one after another.
use Rattle.std.proofs.Common.{◌≡◌, ℕ, zero, suc, ◌+◌, ◌<◌, ◌≤◌, ◌&&◌, ◌||◌, Bool, true, false, cond, eqb, ltb, List, [], ◌∷◌, ◌++◌, length, get_or, take, drop, set, Option, None, Some, Result, Ok, Err, IfOk, OnOk, refl, sym, ap, ◌∙◌, subst, arith}
use Rattle.std.proofs.lemmas.Bool.{lt-ltb, false≢true}
use Rattle.std.proofs.lemmas.Bool.Decides.{Decides-eqb, nat_tests}
use Rattle.std.proofs.Math.ListN.{drop_of_length-le}
use Rattle.std.proofs.lemmas.List.{length-append, take_all}
use Rattle.std.specs.FinSet.{FinSet, contains, empty, contains-empty}
use Rattle.std.specs.Ordering.{nat_cmp}
use Rattle.pvd_type.specs.SameLaws.{both, and_true}
use Rattle.pvd_type.specs.Sets.{IsFirstFrom}
use Rattle.pvd_type.specs.Tree.{Tree, node, struct, Fields}
use Rattle.pvd_type.specs.Numbers.{numbered, numbered_fields, sizes_of, IsMeasured}
use Rattle.pvd_type.proofs.Sizes.{Measures, measured_first, measured_whole}
use Rattle.pvd_value.specs.Data.{Data, members, Row, end, more}
use Rattle.pvd_value.specs.Fits.{fits_of, row_fits}
use Rattle.pvd_value.specs.Leaves.{leaf_at}
use Rattle.pvd_value.specs.Merge.{merged, merged_row}
use Rattle.pvd_value.specs.View.{view, row_view}
use Rattle.pvd_value.specs.declared.value.PvValue.{PvValue}
use Rattle.pvd_value.proofs.Rows.{joined, joined_push, joined_end, row_from}
use Rattle.pvd_value.proofs.SetItems.{drop_set, take_set}
use Rattle.pvd_value.proofs.Slots.{merged_leaf}
use Rattle.pvd_value.proofs.Unmarked.{Misses}
use Rattle.rec_kinds.specs.declared.state.RecState.{RecState}
use Rattle.group_view.specs.Seen.{branch_seen, named_seen, slots_seen}
use Rattle.group_view.specs.Groups.{GroupData}
use Rattle.group_view.specs.Slots.{level, Slots, slot, structure_of}
use Rattle.group_view.specs.Types.{slot_tree, slot_fields, group_tree}
use Rattle.group_view.specs.Views.{slot_shown, slots_shown, IsPart, IsKept, IsRowKept, group_shown, HasNumber, IsReadyUnder, AreReadyUnder, IsReadyFor, IsBefore}
use Rattle.group_view.specs.declared.slots.Named.{Named}
use Rattle.group_view.proofs.Keeping.{shown_is, tree_is}
use Rattle.group_view.proofs.Merging.{unmarked, merged_same, merged_row_same, merged_again, AreAlike, alike}
use Rattle.group_view.proofs.Walks.{slots_from, slots_over}

-- ---- the first number of the mask

pub within : (mask : FinSet nat_cmp) (n count bound : ℕ) (first : Option ℕ) → bound ≡ n + count → IsFirstFrom mask n first → IsBefore true first bound → HasNumber mask n count
within mask n count bound None is h before = absurd (false≢true (sym before))
within mask n count bound (Some q) is h before = record { number = q; from = h.0; to = grind (arith, nat_tests); marked = h.1 }

pub misses : (mask : FinSet nat_cmp) (n count bound : ℕ) (first : Option ℕ) → bound ≡ n + count → IsFirstFrom mask n first → IsBefore false first bound → Misses (contains mask) n count
misses mask n count bound None is h before k from to = h k from
misses mask n count bound (Some q) is h before k from to = h.2 k from (grind (arith, nat_tests))

pub still_first : (mask : FinSet nat_cmp) (n count bound : ℕ) (first : Option ℕ) → bound ≡ n + count → IsFirstFrom mask n first → IsBefore false first bound → IsFirstFrom mask bound first
still_first mask n count bound None is h before = λ q from. h q (omega (arith, is, from))
still_first mask n count bound (Some q) is h before = (grind (arith, nat_tests), h.1, λ k from to. h.2 k (omega (arith, is, from)) to)

-- ---- what a member shows

module _ (mask marked : FinSet nat_cmp) (n : ℕ) (t : Tree) (counted : (k : ℕ) → contains marked k ≡ (ltb k (length (numbered t)) && contains mask (n + k))) where
  counted_alike : AreAlike (contains marked) 0 (contains mask) n (length (numbered t))
  counted_alike k lt =
      let e : 0 + k ≡ k = omega arith in
      ap (contains marked) e ∙ counted k ∙ ap (λ b. b && contains mask (n + k)) (lt-ltb k (length (numbered t)) lt)

  taken : (old part new : Data) → new ≡ merged (contains marked) 0 t old part → new ≡ merged (contains mask) n t old part
  taken old part new is = is ∙ alike (contains marked) (contains mask) 0 n t old part counted_alike

  pub part_taken : (old part whole new : Data) → fits_of 16 old t ≡ true → new ≡ merged (contains marked) 0 t old part → IsPart marked 0 t part whole
      → new ≡ merged (contains mask) n t old whole
  part_taken old part whole new fits is same = taken old whole new (is ∙ same old fits)

  pub part_kept : (old part new : Data) → fits_of 16 old t ≡ true → fits_of 16 part t ≡ true → new ≡ merged (contains marked) 0 t old part → IsKept mask n t old new
  part_kept old part new old_fits fits is =
      let made = taken old part new is in
      ap (merged (contains mask) n t old) made ∙ merged_again (contains mask) n t old part old_fits fits ∙ sym made

-- ---- slots, one after another

module _ (mask : FinSet nat_cmp) (states : List RecState) (ns : List Named) (i : ℕ) (n : Named) (in_ns : i < length ns) (at_n : get_or ns i n ≡ n) where
  abbrev tree : Tree
  tree = slot_tree (branch_seen n.branch)

  abbrev rest : Slots
  rest = slots_seen (drop (i + 1) ns)

  abbrev from : Slots
  from = slots_seen (drop i ns)

  pub few_first : (k : ℕ) → k + length (numbered_fields (slot_fields from)) ≤ 4096 → k + length (numbered tree) ≤ 4096
  few_first k h =
      let len = length-append (numbered tree) (numbered_fields (slot_fields rest)) in
      omega (arith, rw (slots_from ns i n in_ns at_n) at h, len)

  pub total_rest : (k next total : ℕ) → next ≡ k + length (numbered tree) → k + length (numbered_fields (slot_fields from)) ≡ total
      → next + length (numbered_fields (slot_fields rest)) ≡ total
  total_rest k next total is h =
      let len = length-append (numbered tree) (numbered_fields (slot_fields rest)) in
      omega (arith, rw (slots_from ns i n in_ns at_n) at h, len, is)

  pub ready_first : (k : ℕ) → AreReadyUnder mask states k from → IsReadyUnder mask states k (branch_seen n.branch)
  ready_first k h = (rw (slots_from ns i n in_ns at_n) at h).0

  pub ready_rest : (k next : ℕ) → next ≡ k + length (numbered tree) → AreReadyUnder mask states k from → AreReadyUnder mask states next rest
  ready_rest k next is h = subst (λ (j : ℕ). AreReadyUnder mask states j rest) (sym is) (rw (slots_from ns i n in_ns at_n) at h).1

  pub measures : (sizes : List ℕ) → IsMeasured sizes (numbered_fields (slot_fields from)) → Measures sizes tree (numbered_fields (slot_fields rest))
  measures sizes h = measured_first sizes tree (numbered_fields (slot_fields rest)) (rw (slots_from ns i n in_ns at_n) at h)

  module _ (vs : List PvValue) (v : PvValue) (in_vs : i < length vs) (at_v : get_or vs i v ≡ v) where
    pub fits_split : row_fits 16 (row_view (drop i vs)) (slot_fields from) ≡ true → (fits_of 16 (view v) tree ≡ true) × (row_fits 16 (row_view (drop (i + 1) vs)) (slot_fields rest) ≡ true)
    fits_split h =
        let split : row_fits 16 (more (view v) (row_view (drop (i + 1) vs))) (slot_fields (slot n.name (branch_seen n.branch) rest)) ≡ true =
        (λ j. row_fits 16 (sym (row_from vs i v in_vs at_v) j) (slot_fields (sym (slots_from ns i n in_ns at_n) j))) ∙ h in
        both (fits_of 16 (view v) tree) (row_fits 16 (row_view (drop (i + 1) vs)) (slot_fields rest)) split

    module _ (y : PvValue) where
      -- the values with a new one in this place
      pub with_new : row_view (set vs i y) ≡ joined (row_view (take i vs)) (more (view y) (row_view (drop (i + 1) vs)))
      with_new =
          let e : suc i ≡ i + 1 = omega arith in
          by vs i in_vs ∙ ap (λ (k : ℕ). joined (row_view (take i vs)) (more (view y) (row_view (drop k vs)))) e
        where
          by : (vs : List PvValue) (i : ℕ) → i < length vs → row_view (set vs i y) ≡ joined (row_view (take i vs)) (more (view y) (row_view (drop (suc i) vs)))
          by [] i h = absurd (omega arith)
          by (x ∷ vs) zero h = refl
          by (x ∷ vs) (suc i) h = ap (more (view x)) (by vs i (omega arith))

      pub left_new : row_view (drop (i + 1) (set vs i y)) ≡ row_view (drop (i + 1) vs)
      left_new = ap row_view (drop_set vs i y)

      pub done_new : (r : Row) → joined (row_view (take (i + 1) (set vs i y))) r ≡ joined (row_view (take i vs)) (more (view y) r)
      done_new r = (λ j. joined (row_view (take_set vs i y in_vs j)) r) ∙ joined_push (take i vs) y r

      module _ (k next : ℕ) (after : next ≡ k + length (numbered tree)) where
        pub same_more : (whole : Row) → view y ≡ merged (contains mask) k tree (view v) (slot_shown states (branch_seen n.branch))
            → joined (row_view (take i vs)) (merged_row (contains mask) k (slot_fields from) (row_view (drop i vs)) (slots_shown states from)) ≡ whole
            → joined (row_view (take (i + 1) (set vs i y))) (merged_row (contains mask) next (slot_fields rest) (row_view (drop (i + 1) (set vs i y))) (slots_shown states rest)) ≡ whole
        same_more whole made same =
            let front = row_view (take i vs) in
            let others = slots_shown states rest in
            ap (λ (r : Row). joined (row_view (take (i + 1) (set vs i y))) (merged_row (contains mask) next (slot_fields rest) r others)) left_new
            ∙ done_new (merged_row (contains mask) next (slot_fields rest) (row_view (drop (i + 1) vs)) others)
            ∙ ap (λ (x : Data). joined front (more x (merged_row (contains mask) next (slot_fields rest) (row_view (drop (i + 1) vs)) others))) made
            ∙ ap (λ (j : ℕ). joined front (more (merged (contains mask) k tree (view v) (slot_shown states (branch_seen n.branch))) (merged_row (contains mask) j (slot_fields rest) (row_view (drop (i + 1) vs)) others))) after
            ∙ rw (slots_from ns i n in_ns at_n, row_from vs i v in_vs at_v) at same

        -- whatever keeps the rest keeps the whole
        pub kept_with : (whole : Row → Type 0) → IsKept mask k tree (view v) (view y)
            → ((r : Row) → IsRowKept mask k (slot_fields from) (row_view (drop i vs)) r → whole (joined (row_view (take i vs)) r))
            → (r : Row) → IsRowKept mask next (slot_fields rest) (row_view (drop (i + 1) vs)) r → whole (joined (row_view (take i vs)) (more (view y) r))
        kept_with whole mine so_far r others =
            let later : IsRowKept mask (k + length (numbered tree)) (slot_fields rest) (row_view (drop (i + 1) vs)) r =
            subst (λ (j : ℕ). IsRowKept mask j (slot_fields rest) (row_view (drop (i + 1) vs)) r) after others in
            let all : merged_row (contains mask) k (slot_fields (slot n.name (branch_seen n.branch) rest)) (more (view v) (row_view (drop (i + 1) vs))) (more (view y) r) ≡ more (view y) r =
            λ j. more (mine j) (later j) in
            so_far (more (view y) r)
            ((λ j. merged_row (contains mask) k (slot_fields (slots_from ns i n in_ns at_n j)) (row_from vs i v in_vs at_v j) (more (view y) r)) ∙ all)

        pub kept_more : (whole : Row → Type 0) → IsKept mask k tree (view v) (view y)
            → ((r : Row) → IsRowKept mask k (slot_fields from) (row_view (drop i vs)) r → whole (joined (row_view (take i vs)) r))
            → (r : Row) → IsRowKept mask next (slot_fields rest) (row_view (drop (i + 1) (set vs i y))) r → whole (joined (row_view (take (i + 1) (set vs i y))) r)
        kept_more whole mine so_far r others =
            subst whole (sym (done_new r)) (kept_with whole mine so_far r (subst (λ (q : Row). IsRowKept mask next (slot_fields rest) q r) left_new others))

        -- where the walk ends here, the values after this one are as they were
        pub kept_here : (whole : Row → Type 0) → IsKept mask k tree (view v) (view y)
            → ((r : Row) → IsRowKept mask k (slot_fields from) (row_view (drop i vs)) r → whole (joined (row_view (take i vs)) r))
            → row_fits 16 (row_view (drop (i + 1) vs)) (slot_fields rest) ≡ true → whole (row_view (set vs i y))
        kept_here whole mine so_far fits =
            subst whole (sym with_new) (kept_with whole mine so_far (row_view (drop (i + 1) vs)) (merged_row_same (contains mask) next (slot_fields rest) (row_view (drop (i + 1) vs)) fits))

      pub fits_with : (whole : Slots) → fits_of 16 (view y) tree ≡ true
          → ((r : Row) → row_fits 16 r (slot_fields from) ≡ true → row_fits 16 (joined (row_view (take i vs)) r) (slot_fields whole) ≡ true)
          → (r : Row) → row_fits 16 r (slot_fields rest) ≡ true → row_fits 16 (joined (row_view (take i vs)) (more (view y) r)) (slot_fields whole) ≡ true
      fits_with whole mine so_far r others =
          let all : row_fits 16 (more (view y) r) (slot_fields (slot n.name (branch_seen n.branch) rest)) ≡ true =
          and_true (fits_of 16 (view y) tree) (row_fits 16 r (slot_fields rest)) mine others in
          so_far (more (view y) r) ((λ j. row_fits 16 (more (view y) r) (slot_fields (slots_from ns i n in_ns at_n j))) ∙ all)

      pub fits_more : (whole : Slots) → fits_of 16 (view y) tree ≡ true
          → ((r : Row) → row_fits 16 r (slot_fields from) ≡ true → row_fits 16 (joined (row_view (take i vs)) r) (slot_fields whole) ≡ true)
          → (r : Row) → row_fits 16 r (slot_fields rest) ≡ true → row_fits 16 (joined (row_view (take (i + 1) (set vs i y))) r) (slot_fields whole) ≡ true
      fits_more whole mine so_far r others = ap (λ (q : Row). row_fits 16 q (slot_fields whole)) (done_new r) ∙ fits_with whole mine so_far r others

      pub fits_here : (whole : Slots) → fits_of 16 (view y) tree ≡ true
          → ((r : Row) → row_fits 16 r (slot_fields from) ≡ true → row_fits 16 (joined (row_view (take i vs)) r) (slot_fields whole) ≡ true)
          → row_fits 16 (row_view (drop (i + 1) vs)) (slot_fields rest) ≡ true → row_fits 16 (row_view (set vs i y)) (slot_fields whole) ≡ true
      fits_here whole mine so_far others = ap (λ (q : Row). row_fits 16 q (slot_fields whole)) with_new ∙ fits_with whole mine so_far (row_view (drop (i + 1) vs)) others

-- values that fit slots are as many
pub slots_length : (vs : List PvValue) (ns : List Named) → row_fits 16 (row_view vs) (slot_fields (slots_seen ns)) ≡ true → length vs ≡ length ns
slots_length [] [] h = refl
slots_length [] (n ∷ ns) h = absurd (false≢true h)
slots_length (v ∷ vs) [] h = absurd (false≢true h)
slots_length (v ∷ vs) (n ∷ ns) h = ap suc (slots_length vs ns (both (fits_of 16 (view v) (slot_tree (named_seen n).1)) (row_fits 16 (row_view vs) (slot_fields (slots_seen ns))) h).1)

-- ---- where no slot is left

module _ (ns : List Named) (i : ℕ) (past : length ns ≤ i) (vs : List PvValue) (over : length vs ≤ i) where
  all_done : joined (row_view (take i vs)) end ≡ row_view vs
  all_done = ap (λ (xs : List PvValue). joined (row_view xs) end) (take_all i vs over) ∙ joined_end vs

  pub same_all : (mask : FinSet nat_cmp) (states : List RecState) (k : ℕ) (whole : Row)
      → joined (row_view (take i vs)) (merged_row (contains mask) k (slot_fields (slots_seen (drop i ns))) (row_view (drop i vs)) (slots_shown states (slots_seen (drop i ns)))) ≡ whole → row_view vs ≡ whole
  same_all mask states k whole same =
      let none : drop i vs ≡ [] = drop_of_length-le vs over in
      sym all_done
      ∙ sym (λ j. joined (row_view (take i vs)) (merged_row (contains mask) k (slot_fields (slots_over ns i past j)) (row_view (none j)) (slots_shown states (slots_over ns i past j))))
      ∙ same

  pub kept_all : (mask : FinSet nat_cmp) (k : ℕ) (whole : Row → Type 0)
      → ((r : Row) → IsRowKept mask k (slot_fields (slots_seen (drop i ns))) (row_view (drop i vs)) r → whole (joined (row_view (take i vs)) r)) → whole (row_view vs)
  kept_all mask k whole so_far =
      let none : drop i vs ≡ [] = drop_of_length-le vs over in
      subst whole all_done (so_far end (λ j. merged_row (contains mask) k (slot_fields (slots_over ns i past j)) (row_view (none j)) end))

  pub fits_all : (whole : Slots) → ((r : Row) → row_fits 16 r (slot_fields (slots_seen (drop i ns))) ≡ true → row_fits 16 (joined (row_view (take i vs)) r) (slot_fields whole) ≡ true)
      → row_fits 16 (row_view vs) (slot_fields whole) ≡ true
  fits_all whole so_far =
      ap (λ (q : Row). row_fits 16 q (slot_fields whole)) (sym all_done) ∙ so_far end (ap (λ ss. row_fits 16 end (slot_fields ss)) (slots_over ns i past))

-- ---- numbers that are counted from a start

not_below : (q : ℕ) → ltb q 0 ≡ false
not_below q = grind (arith, nat_tests)

pub counted_none : (mask : FinSet nat_cmp) (start : ℕ) (marked : FinSet nat_cmp) → marked ≡ empty → (q : ℕ) → contains marked q ≡ (ltb q 0 && contains mask (start + q))
counted_none mask start marked is q =
    ap (λ (s : FinSet nat_cmp). contains s q) is ∙ contains-empty nat_cmp q ∙ sym (ap (λ b. b && contains mask (start + q)) (not_below q))

spread : (a e x y : Bool) → (e ≡ true → y ≡ x) → ((a && x) || (e && y)) ≡ ((a || e) && x)
spread true true true y h = refl
spread true true false y h = h refl
spread true false true y h = refl
spread true false false y h = refl
spread false true x y h = h refl
spread false false x y h = refl

below_next : (q k : ℕ) → (ltb q k || eqb q k) ≡ ltb q (k + 1)
below_next q k = grind (arith, nat_tests)

pub counted_more : (mask : FinSet nat_cmp) (start k q : ℕ) → ((ltb q k && contains mask (start + q)) || (eqb q k && contains mask (start + k))) ≡ (ltb q (k + 1) && contains mask (start + q))
counted_more mask start k q =
    spread (ltb q k) (eqb q k) (contains mask (start + q)) (contains mask (start + k)) (λ e. ap (λ (j : ℕ). contains mask (start + j)) (sym ((Decides-eqb q k).0 e)))
    ∙ ap (λ b. b && contains mask (start + q)) (below_next q k)

pub or_marked : (a b : Bool) → (a || b) ≡ (b || (a && true))
or_marked true true = refl
or_marked true false = refl
or_marked false true = refl
or_marked false false = refl

pub or_unmarked : (a b : Bool) → b ≡ (b || (a && false))
or_unmarked true true = refl
or_unmarked true false = refl
or_unmarked false true = refl
or_unmarked false false = refl

pub if_ok : {A E : Type 0} {P Q : A → Type 0} (r : Result A E) → ((x : A) → P x → Q x) → IfOk r P → IfOk r Q
if_ok (Ok x) f h = f x h
if_ok (Err e) f h = h

pub on_ok : {A E : Type 0} {P Q : Type 0} (r : Result A E) → (P → Q) → OnOk r P → OnOk r Q
on_ok (Ok x) f h = f h
on_ok (Err e) f h = h

-- ---- a group's structure

same_id : (v : Data) (id other : List ℕ) (fs : Fields) → fits_of 16 v (node struct id fs) ≡ true → fits_of 16 v (node struct other fs) ≡ true
same_id (members vs) id other fs h = h
same_id _ id other fs h = absurd (false≢true h)

pub level_fits : (v : Data) (t : Tree) (id : List ℕ) (ss : Slots) → t ≡ slot_tree (level id ss) → fits_of 16 v t ≡ true → fits_of 16 v (node struct [] (slot_fields ss)) ≡ true
level_fits v t id ss is h = same_id v id [] (slot_fields ss) (sym (ap (fits_of 16 v) is) ∙ h)

pub level_still : (v : Data) (t : Tree) (id : List ℕ) (ss : Slots) → t ≡ slot_tree (level id ss) → fits_of 16 v (node struct [] (slot_fields ss)) ≡ true → fits_of 16 v t ≡ true
level_still v t id ss is h = ap (fits_of 16 v) is ∙ same_id v [] id (slot_fields ss) h

pub level_measured : (sizes : List ℕ) (t : Tree) (id : List ℕ) (ss : Slots) → t ≡ slot_tree (level id ss) → IsMeasured sizes (numbered t) → IsMeasured sizes (numbered (node struct [] (slot_fields ss)))
level_measured sizes t id ss is m = record { rest = m.rest; front = m.front ∙ ap (λ (x : Tree). sizes_of (numbered x) ++ m.rest) is }

module _ (g : GroupData) (ss : Slots) (structure : level g.id ss ≡ structure_of g) where
  abbrev own : Tree
  own = node struct [] (slot_fields ss)

  pub own_fits : (v : Data) → fits_of 16 v (group_tree g) ≡ true → fits_of 16 v own ≡ true
  own_fits v h = level_fits v (group_tree g) g.id ss (sym (tree_is g ss structure)) h

  pub own_still : (v : Data) → fits_of 16 v own ≡ true → fits_of 16 v (group_tree g) ≡ true
  own_still v h = level_still v (group_tree g) g.id ss (sym (tree_is g ss structure)) h

  pub own_measured : (sizes : List ℕ) (ty : Tree) → ty ≡ group_tree g → sizes ≡ sizes_of (numbered ty) → IsMeasured sizes (numbered own)
  own_measured sizes ty tree is = level_measured sizes ty g.id ss (tree ∙ sym (tree_is g ss structure)) (measured_whole sizes ty is)

  pub own_few : (ty : Tree) → ty ≡ group_tree g → length (numbered ty) ≤ 4096 → 0 + length (numbered own) ≤ 4096
  own_few ty tree few = let same = ap (λ (t : Tree). length (numbered t)) (tree ∙ sym (tree_is g ss structure)) in omega (arith, few, same)

  pub own_shown : (mask : FinSet nat_cmp) (states : List RecState) (old new : Data) → new ≡ merged (contains mask) 0 own old (members (slots_shown states ss))
      → new ≡ merged (contains mask) 0 (group_tree g) old (group_shown g states)
  own_shown mask states old new is =
      is
      ∙ ap (λ (t : Tree). merged (contains mask) 0 t old (members (slots_shown states ss))) (tree_is g ss structure)
      ∙ ap (merged (contains mask) 0 (group_tree g) old) (shown_is g ss structure states)

  pub own_kept : (mask : FinSet nat_cmp) (old new : Data) → fits_of 16 old (group_tree g) ≡ true → fits_of 16 new own ≡ true → IsKept mask 0 own old new
      → (k : ℕ) → contains mask k ≡ false → leaf_at k (group_tree g) new ≡ leaf_at k (group_tree g) old
  own_kept mask old new old_fits fits kept k unmarked =
      let t = group_tree g in
      let whole : merged (contains mask) 0 t old new ≡ new = sym (ap (λ (x : Tree). merged (contains mask) 0 x old new) (tree_is g ss structure)) ∙ kept in
      sym (ap (leaf_at k t) whole)
      ∙ merged_leaf 16 (contains mask) t old new k old_fits (own_still new fits)
      ∙ ap (λ m. cond m (leaf_at k t new) (leaf_at k t old)) unmarked
