-- The ids of monitors, which are kept rising.
use Rattle.std.proofs.Common.{◌≡◌, ◌≢◌, ◌==◌, ℕ, zero, suc, ◌+◌, ◌<◌, ◌≤◌, Bool, true, false, ◌&&◌, ◌||◌, not, cond, List, [], ◌∷◌, ◌++◌, Option, None, Some, take, drop, map, length, refl, sym, ◌∙◌, ap, subst, arith, inl, inr, T}
use Rattle.std.specs.Prelude.{◌⊎◌, IfNone, IfSome, get_or, is_some, nat_lt, slice_get}
use Rattle.chan_table.specs.Tables.{Tables, without_ask}
use Rattle.desk_api.specs.declared.channel.Channel.{Channel}
use Rattle.desk_api.specs.declared.sub.Sub.{Sub}
use Rattle.std.specs.List.{filter, flat_map, list_all, list_any, prefix_len, insert as put_in, remove as taken_out}
use Rattle.std.specs.FinMap.{get, insert, remove, keys, entries, entries_sorted, get-entries, find, is_sorted}
use Rattle.std.specs.FinMap.Entries.{below_all}
use Rattle.std.specs.Ordering.{nat_cmp, eq_by_cmp, is_lt}
use Rattle.std.proofs.lemmas.Bool.{false≢true}
use Rattle.std.proofs.lemmas.Bool.Decides.{nat_tests}
use Rattle.std.proofs.lemmas.List.{at_drop_more}
use Rattle.std.proofs.lemmas.Option.{none-some}
use Rattle.srv_session.specs.State.{Asked, Requests, is_due, due, is_on, on_only, without_channel, slot_of_sub, slot_of, slots_of}
use Rattle.srv_session.specs.Rising.{is_rising, is_among, is_same, is_at, with_id, without_id, AreListed}
use Rattle.srv_session.specs.Steps.{with_sent, one_sent}
use Rattle.srv_session.specs.Watching.{with_steered}
use Rattle.srv_session.proofs.Tables.{same_or_not, got_inserted, got_beside, got_removed, got_left, got_without, both_parts, less, tied, untied}
use Rattle.srv_session.proofs.Owning.{Has, has_slot}
use Rattle.srv_session.proofs.Slots.{got_only}

both_true : (a b : Bool) → (a && b) ≡ true → (a ≡ true) × (b ≡ true)
both_true true b e = (refl, e)
both_true false b e = absurd (false≢true e)

true_both : (a b : Bool) → a ≡ true → b ≡ true → (a && b) ≡ true
true_both true b p q = q
true_both false b p q = absurd (false≢true p)

either_true : (a b : Bool) → (a || b) ≡ true → (a ≡ true) ⊎ (b ≡ true)
either_true true b e = inl refl
either_true false b e = inr e

true_or : (a b : Bool) → b ≡ true → (a || b) ≡ true
true_or true b e = refl
true_or false b e = e

or_true : (a b : Bool) → a ≡ true → (a || b) ≡ true
or_true true b e = refl
or_true false b e = absurd (false≢true e)

abbrev below : ℕ → ℕ → Bool
below id x = nat_lt x id

-- one more id in its place

put_rest : (x id n : ℕ) (ids : List ℕ) → put_in (x ∷ ids) (1 + n) id ≡ x ∷ put_in ids n id
put_rest x id n ids = let one : 1 + n ≡ suc n = omega arith in ap (λ (k : ℕ). put_in (x ∷ ids) k id) one

at_rest : (x id n : ℕ) (ids : List ℕ) → is_at id (1 + n) (x ∷ ids) ≡ is_at id n ids
at_rest x id n ids = let one : 1 + n ≡ suc n = omega arith in ap (λ (k : ℕ). is_at id k (x ∷ ids)) one

out_rest : (x n : ℕ) (ids : List ℕ) → taken_out (x ∷ ids) (1 + n) ≡ x ∷ taken_out ids n
out_rest x n ids = let one : 1 + n ≡ suc n = omega arith in ap (λ (k : ℕ). taken_out (x ∷ ids) k) one

pub is_there : (id : ℕ) (ids : List ℕ) → is_at id (prefix_len (below id) ids) ids ≡ true → ids ≡ with_id id ids
is_there id [] at = absurd (false≢true at)
is_there id (x ∷ ids) at = by_test (is_there id ids) (nat_lt x id) at
  where
    by_test : (is_at id (prefix_len (below id) ids) ids ≡ true → ids ≡ with_id id ids) → (b : Bool) → is_at id (cond b (1 + prefix_len (below id) ids) 0) (x ∷ ids) ≡ true
        → x ∷ ids ≡ cond b (x ∷ with_id id ids) (cond (x == id) (x ∷ ids) (id ∷ x ∷ ids))
    by_test step true at = ap (λ (l : List ℕ). x ∷ l) (step (sym (at_rest x id (prefix_len (below id) ids) ids) ∙ at))
    by_test step false at = ap (λ (b : Bool). cond b (x ∷ ids) (id ∷ x ∷ ids)) (sym at)

pub comes_in : (id : ℕ) (ids : List ℕ) → is_at id (prefix_len (below id) ids) ids ≡ false → put_in ids (prefix_len (below id) ids) id ≡ with_id id ids
comes_in id [] at = refl
comes_in id (x ∷ ids) at = by_test (comes_in id ids) (nat_lt x id) at
  where
    by_test : (is_at id (prefix_len (below id) ids) ids ≡ false → put_in ids (prefix_len (below id) ids) id ≡ with_id id ids) → (b : Bool) → is_at id (cond b (1 + prefix_len (below id) ids) 0) (x ∷ ids) ≡ false
        → put_in (x ∷ ids) (cond b (1 + prefix_len (below id) ids) 0) id ≡ cond b (x ∷ with_id id ids) (cond (x == id) (x ∷ ids) (id ∷ x ∷ ids))
    by_test step true at = put_rest x id (prefix_len (below id) ids) ids ∙ ap (λ (l : List ℕ). x ∷ l) (step (sym (at_rest x id (prefix_len (below id) ids) ids) ∙ at))
    by_test step false at = ap (λ (b : Bool). cond b (x ∷ ids) (id ∷ x ∷ ids)) (sym at)

-- all are kept where all are greater
all_kept : (x id : ℕ) (ids : List ℕ) → id ≤ x → list_all (λ y. nat_lt x y) ids ≡ true → without_id id ids ≡ ids
all_kept x id [] le all = refl
all_kept x id (y ∷ ids) le all =
    let parts = both_true (nat_lt x y) (list_all (λ z. nat_lt x z) ids) all in
    let more = parts.0 in
    let test : (y == id) ≡ false = grind (arith, nat_tests) in
    ap (λ (b : Bool). cond (not b) (y ∷ without_id id ids) (without_id id ids)) test ∙ ap (λ (l : List ℕ). y ∷ l) (all_kept x id ids le parts.1)

pub goes_out : (id : ℕ) (ids : List ℕ) → is_rising ids ≡ true → is_at id (prefix_len (below id) ids) ids ≡ true → taken_out ids (prefix_len (below id) ids) ≡ without_id id ids
goes_out id [] rising at = absurd (false≢true at)
goes_out id (x ∷ ids) rising at = by_test (goes_out id ids parts.1) (nat_lt x id) refl at
  where
    parts : (list_all (λ y. nat_lt x y) ids ≡ true) × (is_rising ids ≡ true)
    parts = both_true (list_all (λ y. nat_lt x y) ids) (is_rising ids) rising

    by_test : (is_at id (prefix_len (below id) ids) ids ≡ true → taken_out ids (prefix_len (below id) ids) ≡ without_id id ids) → (b : Bool) → nat_lt x id ≡ b
        → is_at id (cond b (1 + prefix_len (below id) ids) 0) (x ∷ ids) ≡ true
        → taken_out (x ∷ ids) (cond b (1 + prefix_len (below id) ids) 0) ≡ without_id id (x ∷ ids)
    by_test step true lt at =
        let test : (x == id) ≡ false = grind (arith, nat_tests) in
        out_rest x (prefix_len (below id) ids) ids
        ∙ ap (λ (l : List ℕ). x ∷ l) (step (sym (at_rest x id (prefix_len (below id) ids) ids) ∙ at))
        ∙ sym (ap (λ (b : Bool). cond (not b) (x ∷ without_id id ids) (without_id id ids)) test)
    by_test step false ge at =
        let one : x ≡ id = grind (arith, nat_tests) in
        sym (all_kept x id ids (omega (arith, one)) parts.0) ∙ sym (ap (λ (b : Bool). cond (not b) (x ∷ without_id id ids) (without_id id ids)) at)

pub stays_out : (id : ℕ) (ids : List ℕ) → is_rising ids ≡ true → is_at id (prefix_len (below id) ids) ids ≡ false → ids ≡ without_id id ids
stays_out id [] rising at = refl
stays_out id (x ∷ ids) rising at = by_test (stays_out id ids parts.1) (nat_lt x id) refl at
  where
    parts : (list_all (λ y. nat_lt x y) ids ≡ true) × (is_rising ids ≡ true)
    parts = both_true (list_all (λ y. nat_lt x y) ids) (is_rising ids) rising

    by_test : (is_at id (prefix_len (below id) ids) ids ≡ false → ids ≡ without_id id ids) → (b : Bool) → nat_lt x id ≡ b → is_at id (cond b (1 + prefix_len (below id) ids) 0) (x ∷ ids) ≡ false → x ∷ ids ≡ without_id id (x ∷ ids)
    by_test step true lt at =
        let test : (x == id) ≡ false = grind (arith, nat_tests) in
        ap (λ (l : List ℕ). x ∷ l) (step (sym (at_rest x id (prefix_len (below id) ids) ids) ∙ at))
        ∙ sym (ap (λ (b : Bool). cond (not b) (x ∷ without_id id ids) (without_id id ids)) test)
    by_test step false ge at =
        let more : id ≤ x = grind (arith, nat_tests) in
        ap (λ (l : List ℕ). x ∷ l) (sym (all_kept x id ids more parts.0))
        ∙ sym (ap (λ (b : Bool). cond (not b) (x ∷ without_id id ids) (without_id id ids)) at)

-- They stay rising.

more_above : (x id : ℕ) (ids : List ℕ) → nat_lt x id ≡ true → list_all (λ y. nat_lt x y) ids ≡ true → list_all (λ y. nat_lt x y) (with_id id ids) ≡ true
more_above x id [] lt all = true_both (nat_lt x id) true lt refl
more_above x id (y ∷ ids) lt all = by_test (more_above x id ids lt parts.1) (nat_lt y id) (y == id)
  where
    parts : (nat_lt x y ≡ true) × (list_all (λ z. nat_lt x z) ids ≡ true)
    parts = both_true (nat_lt x y) (list_all (λ z. nat_lt x z) ids) all

    by_test : list_all (λ z. nat_lt x z) (with_id id ids) ≡ true → (a b : Bool) → list_all (λ z. nat_lt x z) (cond a (y ∷ with_id id ids) (cond b (y ∷ ids) (id ∷ y ∷ ids))) ≡ true
    by_test step true b = true_both (nat_lt x y) _ parts.0 step
    by_test step false true = all
    by_test step false false = true_both (nat_lt x id) _ lt all

above_too : (x y : ℕ) (ids : List ℕ) → x ≤ y → list_all (λ z. nat_lt y z) ids ≡ true → list_all (λ z. nat_lt x z) ids ≡ true
above_too x y [] le all = refl
above_too x y (z ∷ ids) le all =
    let parts = both_true (nat_lt y z) (list_all (λ w. nat_lt y w) ids) all in
    let more = parts.0 in
    true_both (nat_lt x z) _ (grind (arith, nat_tests)) (above_too x y ids le parts.1)

pub rising_with : (id : ℕ) (ids : List ℕ) → is_rising ids ≡ true → is_rising (with_id id ids) ≡ true
rising_with id [] rising = refl
rising_with id (x ∷ ids) rising = by_test (rising_with id ids parts.1) (nat_lt x id) (x == id) refl refl
  where
    parts : (list_all (λ y. nat_lt x y) ids ≡ true) × (is_rising ids ≡ true)
    parts = both_true (list_all (λ y. nat_lt x y) ids) (is_rising ids) rising

    by_test : is_rising (with_id id ids) ≡ true → (a b : Bool) → nat_lt x id ≡ a → (x == id) ≡ b → is_rising (cond a (x ∷ with_id id ids) (cond b (x ∷ ids) (id ∷ x ∷ ids))) ≡ true
    by_test step true b lt same = true_both _ _ (more_above x id ids lt parts.0) step
    by_test step false true lt same = rising
    by_test step false false lt same =
        let less : nat_lt id x ≡ true = grind (arith, nat_tests) in
        let le : id ≤ x = grind (arith, nat_tests) in
        true_both _ _ (true_both (nat_lt id x) _ less (above_too id x ids le parts.0)) rising

kept_above : (x : ℕ) (test : ℕ → Bool) (ids : List ℕ) → list_all (λ y. nat_lt x y) ids ≡ true → list_all (λ y. nat_lt x y) (filter test ids) ≡ true
kept_above x test [] all = refl
kept_above x test (y ∷ ids) all = by_test (kept_above x test ids parts.1) (test y)
  where
    parts : (nat_lt x y ≡ true) × (list_all (λ z. nat_lt x z) ids ≡ true)
    parts = both_true (nat_lt x y) (list_all (λ z. nat_lt x z) ids) all

    by_test : list_all (λ z. nat_lt x z) (filter test ids) ≡ true → (b : Bool) → list_all (λ z. nat_lt x z) (cond b (y ∷ filter test ids) (filter test ids)) ≡ true
    by_test step true = true_both (nat_lt x y) _ parts.0 step
    by_test step false = step

pub rising_filter : (test : ℕ → Bool) (ids : List ℕ) → is_rising ids ≡ true → is_rising (filter test ids) ≡ true
rising_filter test [] rising = refl
rising_filter test (x ∷ ids) rising = by_test (rising_filter test ids parts.1) (test x)
  where
    parts : (list_all (λ y. nat_lt x y) ids ≡ true) × (is_rising ids ≡ true)
    parts = both_true (list_all (λ y. nat_lt x y) ids) (is_rising ids) rising

    by_test : is_rising (filter test ids) ≡ true → (b : Bool) → is_rising (cond b (x ∷ filter test ids) (filter test ids)) ≡ true
    by_test step true = true_both _ _ (kept_above x test ids parts.0) step
    by_test step false = step

-- What is among them.

pub among_with : (q id : ℕ) (ids : List ℕ) → is_among q ids ≡ true → is_among q (with_id id ids) ≡ true
among_with q id [] is = absurd (false≢true is)
among_with q id (x ∷ ids) is = by_test (among_with q id ids) (nat_lt x id) (x == id)
  where
    by_place : (is_among q ids ≡ true → is_among q (with_id id ids) ≡ true) → ((x == q) ≡ true) ⊎ (is_among q ids ≡ true) → ((x == q) || is_among q (with_id id ids)) ≡ true
    by_place step (inl e) = or_true (x == q) _ e
    by_place step (inr e) = true_or (x == q) _ (step e)

    by_test : (is_among q ids ≡ true → is_among q (with_id id ids) ≡ true) → (a b : Bool) → is_among q (cond a (x ∷ with_id id ids) (cond b (x ∷ ids) (id ∷ x ∷ ids))) ≡ true
    by_test step true b = by_place step (either_true (x == q) (is_among q ids) is)
    by_test step false true = is
    by_test step false false = true_or (id == q) _ is

pub among_new : (id : ℕ) (ids : List ℕ) → is_among id (with_id id ids) ≡ true
among_new id [] = let test : (id == id) ≡ true = grind (arith, nat_tests) in or_true (id == id) false test
among_new id (x ∷ ids) = by_test (among_new id ids) (nat_lt x id) (x == id) refl
  where
    by_test : is_among id (with_id id ids) ≡ true → (a b : Bool) → (x == id) ≡ b → is_among id (cond a (x ∷ with_id id ids) (cond b (x ∷ ids) (id ∷ x ∷ ids))) ≡ true
    by_test step true b is = true_or (x == id) _ step
    by_test step false true is = or_true (x == id) _ is
    by_test step false false is = let test : (id == id) ≡ true = grind (arith, nat_tests) in or_true (id == id) _ test

pub among_filter : (q : ℕ) (test : ℕ → Bool) (ids : List ℕ) → is_among q (filter test ids) ≡ (test q && is_among q ids)
among_filter q test [] = and_false (test q)
  where
    and_false : (b : Bool) → false ≡ (b && false)
    and_false true = refl
    and_false false = refl
among_filter q test (x ∷ ids) = by_same (among_filter q test ids) (x == q) refl
  where
    dropped : (b : Bool) → is_among q (cond b (x ∷ filter test ids) (filter test ids)) ≡ ((b && (x == q)) || is_among q (filter test ids))
    dropped true = refl
    dropped false = refl

    by_same : is_among q (filter test ids) ≡ (test q && is_among q ids) → (b : Bool) → (x == q) ≡ b → is_among q (filter test (x ∷ ids)) ≡ (test q && (b || is_among q ids))
    by_same step true is =
        let one : x ≡ q = grind (arith, nat_tests) in
        dropped (test x)
        ∙ ap (λ (c : Bool). (test x && c) || is_among q (filter test ids)) is
        ∙ ap (λ (l : Bool). (test x && true) || l) step
        ∙ ap (λ (y : ℕ). (test y && true) || (test q && is_among q ids)) one
        ∙ absorbed (test q) (is_among q ids)
      where
        absorbed : (t l : Bool) → ((t && true) || (t && l)) ≡ (t && true)
        absorbed true l = refl
        absorbed false l = refl
    by_same step false is =
        dropped (test x)
        ∙ ap (λ (c : Bool). (test x && c) || is_among q (filter test ids)) is
        ∙ nothing (test x) (is_among q (filter test ids))
        ∙ step
      where
        nothing : (t l : Bool) → ((t && false) || l) ≡ l
        nothing true l = refl
        nothing false l = refl

-- Lists that rise and have the same ids are equal.

none_below : (q x : ℕ) (ids : List ℕ) → q ≤ x → list_all (λ y. nat_lt x y) ids ≡ true → is_among q ids ≡ false
none_below q x [] le all = refl
none_below q x (y ∷ ids) le all =
    let parts = both_true (nat_lt x y) (list_all (λ z. nat_lt x z) ids) all in
    let more = parts.0 in
    let test : (y == q) ≡ false = grind (arith, nat_tests) in
    ap (λ (b : Bool). b || is_among q ids) test ∙ none_below q x ids le parts.1

in_first : (x y : ℕ) (ids : List ℕ) → (x == y) ≡ false → is_among y (x ∷ ids) ≡ is_among y ids
in_first x y ids apart = ap (λ (b : Bool). b || is_among y ids) apart

pub same_rising : (xs ys : List ℕ) → is_rising xs ≡ true → is_rising ys ≡ true → ((q : ℕ) → is_among q xs ≡ is_among q ys) → xs ≡ ys
same_rising [] [] a b same = refl
same_rising [] (y ∷ ys) a b same =
    let test : (y == y) ≡ true = grind (arith, nat_tests) in absurd (false≢true (same y ∙ or_true (y == y) _ test))
same_rising (x ∷ xs) [] a b same =
    let test : (x == x) ≡ true = grind (arith, nat_tests) in absurd (false≢true (sym (same x) ∙ or_true (x == x) _ test))
same_rising (x ∷ xs) (y ∷ ys) a b same = by_order (same_rising xs ys left.1 right.1) (nat_lt x y) (nat_lt y x) refl refl
  where
    left : (list_all (λ z. nat_lt x z) xs ≡ true) × (is_rising xs ≡ true)
    left = both_true (list_all (λ z. nat_lt x z) xs) (is_rising xs) a

    right : (list_all (λ z. nat_lt y z) ys ≡ true) × (is_rising ys ≡ true)
    right = both_true (list_all (λ z. nat_lt y z) ys) (is_rising ys) b

    by_order : (((q : ℕ) → is_among q xs ≡ is_among q ys) → xs ≡ ys) → (less more : Bool) → nat_lt x y ≡ less → nat_lt y x ≡ more → x ∷ xs ≡ y ∷ ys
    by_order step true more lt gt =
        let test : (x == x) ≡ true = grind (arith, nat_tests) in
        let apart : (y == x) ≡ false = grind (arith, nat_tests) in
        let le : x ≤ y = grind (arith, nat_tests) in
        absurd (false≢true (sym (in_first y x ys apart ∙ none_below x y ys le right.0) ∙ sym (same x) ∙ or_true (x == x) _ test))
    by_order step false true lt gt =
        let test : (y == y) ≡ true = grind (arith, nat_tests) in
        let apart : (x == y) ≡ false = grind (arith, nat_tests) in
        let le : y ≤ x = grind (arith, nat_tests) in
        absurd (false≢true (sym (in_first x y xs apart ∙ none_below y x xs le left.0) ∙ same y ∙ or_true (y == y) _ test))
    by_order step false false lt gt =
        let one : x ≡ y = grind (arith, nat_tests) in
        let rest : xs ≡ ys = step (λ q. others one q (x == q) refl) in
        λ i. one i ∷ rest i
      where
        others : x ≡ y → (q : ℕ) (b : Bool) → (x == q) ≡ b → is_among q xs ≡ is_among q ys
        others one q true is =
            let le : q ≤ x = grind (arith, nat_tests) in
            let le_too : q ≤ y = grind (arith, nat_tests) in
            none_below q x xs le left.0 ∙ sym (none_below q y ys le_too right.0)
        others one q false is =
            let other : (y == q) ≡ false = grind (arith, nat_tests) in
            sym (in_first x q xs is) ∙ same q ∙ in_first y q ys other

-- The keys of a map.

all_above : {V : Type 0} (x : ℕ) (es : List (ℕ × V)) → T (below_all nat_cmp x es) → list_all (λ y. nat_lt x y) (map (λ e. e.0) es) ≡ true
all_above x [] h = refl
all_above x (e ∷ es) h =
    let parts = both_parts (is_lt (nat_cmp x e.0)) (below_all nat_cmp x es) h in
    true_both (nat_lt x e.0) _ (less_test x e.0 parts.0) (all_above x es parts.1)
  where
    less_test : (x y : ℕ) → T (is_lt (nat_cmp x y)) → nat_lt x y ≡ true
    less_test x y h = let lt = less x y h in grind (arith, nat_tests)

rising_keys : {V : Type 0} (es : List (ℕ × V)) → T (is_sorted nat_cmp es) → is_rising (map (λ e. e.0) es) ≡ true
rising_keys [] sorted = refl
rising_keys (e ∷ es) sorted =
    let parts = both_parts (below_all nat_cmp e.0 es) (is_sorted nat_cmp es) sorted in
    true_both _ _ (all_above e.0 es parts.0) (rising_keys es parts.1)

key_among : {V : Type 0} (q : ℕ) (es : List (ℕ × V)) → is_among q (map (λ e. e.0) es) ≡ is_some (find nat_cmp q es)
key_among q [] = refl
key_among q (e ∷ es) = by_test (key_among q es) (e.0 == q) refl
  where
    by_test : is_among q (map (λ x. x.0) es) ≡ is_some (find nat_cmp q es) → (b : Bool) → (e.0 == q) ≡ b → (b || is_among q (map (λ x. x.0) es)) ≡ is_some (cond (eq_by_cmp nat_cmp q e.0) (Some e.1) (find nat_cmp q es))
    by_test step true is =
        let one : q ≡ e.0 = grind (arith, nat_tests) in
        sym (ap (λ (b : Bool). is_some (cond b (Some e.1) (find nat_cmp q es))) (tied q e.0 one))
    by_test step false is =
        let apart : q ≢ e.0 = λ same. let other : (e.0 == q) ≡ true = grind (arith, nat_tests) in false≢true (sym is ∙ other) in
        step ∙ sym (ap (λ (b : Bool). is_some (cond b (Some e.1) (find nat_cmp q es))) (untied q e.0 apart))

due_some : (o : Option Asked) → is_due o ≡ true → (is_some o ≡ true) × ((ask : Asked) → o ≡ Some ask → is_some ask.sub ≡ true)
due_some None is = absurd (false≢true is)
due_some (Some ask) is = (refl, λ other same. subst (λ (a : Asked). is_some a.sub ≡ true) (same_some same) (both_true (is_some ask.sub) _ is).0)
  where
    same_some : {x y : Asked} → Some x ≡ Some y → x ≡ y
    same_some e = cc

-- Those that are due are those of them that are due.
pub due_listed : (m : Requests) (ids : List ℕ) → is_rising ids ≡ true → AreListed ids m → due m ≡ filter (λ q. is_due (get m q)) ids
due_listed m ids rising listed =
    same_rising (due m) (filter test ids) (rising_filter test (keys m) (rising_keys (entries m) (entries_sorted m))) (rising_filter test ids rising)
    (λ q. among_filter q test (keys m) ∙ by_test q (test q) refl ∙ sym (among_filter q test ids))
  where
    test : ℕ → Bool
    test q = is_due (get m q)

    by_test : (q : ℕ) (b : Bool) → test q ≡ b → (b && is_among q (keys m)) ≡ (b && is_among q ids)
    by_test q false is = refl
    by_test q true is = key_among q (entries m) ∙ ap (λ (o : Option Asked). is_some o) (sym (get-entries m q)) ∙ (due_some (get m q) is).0 ∙ sym (by_ask (get m q) refl is)
      where
        by_ask : (o : Option Asked) → get m q ≡ o → is_due (get m q) ≡ true → is_among q ids ≡ true
        by_ask None here due_is = absurd (false≢true (sym (ap is_due here) ∙ due_is))
        by_ask (Some ask) here due_is = listed q ask here ((due_some (get m q) due_is).1 ask here)

-- Requests that come, go and change.

same_ask : {x y : Asked} → Some x ≡ Some y → x ≡ y
same_ask e = cc

pub listed_without : (ids : List ℕ) (m : Requests) (k : ℕ) → AreListed ids m → AreListed ids (remove m k)
listed_without ids m k listed q ask is has = by_id (same_or_not q k)
  where
    by_id : (q ≡ k) ⊎ (q ≢ k) → is_among q ids ≡ true
    by_id (inl same) = absurd (none-some ask (sym (got_removed m k) ∙ ap (get (remove m k)) (sym same) ∙ is))
    by_id (inr apart) = listed q ask (sym (got_left m k q apart) ∙ is) has

pub listed_unlisted : (ids : List ℕ) (m : Requests) (k : ℕ) → get m k ≡ None → AreListed ids m → AreListed (without_id k ids) m
listed_unlisted ids m k gone listed q ask is has = by_id (same_or_not q k)
  where
    by_id : (q ≡ k) ⊎ (q ≢ k) → is_among q (without_id k ids) ≡ true
    by_id (inl same) = absurd (none-some ask (sym gone ∙ ap (get m) (sym same) ∙ is))
    by_id (inr apart) =
        let test : (q == k) ≡ false = by_test (q == k) refl in
        among_filter q (λ x. not (x == k)) ids ∙ ap (λ (b : Bool). not b && is_among q ids) test ∙ listed q ask is has
      where
        by_test : (b : Bool) → (q == k) ≡ b → b ≡ false
        by_test false e = refl
        by_test true e = absurd (apart (grind (arith, nat_tests)))

-- one that is no monitor, or whose id is among them
pub listed_insert : (ids : List ℕ) (m : Requests) (k : ℕ) (v : Asked) → AreListed ids m → (is_some v.sub ≡ true → is_among k ids ≡ true) → AreListed ids (insert m k v)
listed_insert ids m k v listed new q ask is has = by_id (same_or_not q k)
  where
    by_id : (q ≡ k) ⊎ (q ≢ k) → is_among q ids ≡ true
    by_id (inl same) =
        let one : v ≡ ask = same_ask (sym (got_inserted m k v) ∙ ap (get (insert m k v)) (sym same) ∙ is) in
        ap (λ (n : ℕ). is_among n ids) same ∙ new (ap (λ (a : Asked). is_some a.sub) one ∙ has)
    by_id (inr apart) = listed q ask (sym (got_beside m k v q apart) ∙ is) has

pub listed_with : (ids : List ℕ) (m : Requests) (k : ℕ) (v : Asked) → AreListed ids m → AreListed (with_id k ids) (insert m k v)
listed_with ids m k v listed =
    listed_insert (with_id k ids) m k v (λ q ask is has. among_with q k ids (listed q ask is has)) (λ has. among_new k ids)

-- The search for a place.

-- Requests that have the same slots under each id have the same slots.

abbrev is_any : List ℕ → Bool
is_any [] = false
is_any (x ∷ xs) = true

flat_filter : (f : ℕ → List ℕ) (ks : List ℕ) → flat_map f (filter (λ q. is_any (f q)) ks) ≡ flat_map f ks
flat_filter f [] = refl
flat_filter f (k ∷ ks) = by_case (flat_filter f ks) (f k) refl
  where
    by_case : flat_map f (filter (λ q. is_any (f q)) ks) ≡ flat_map f ks → (l : List ℕ) → f k ≡ l
        → flat_map f (cond (is_any (f k)) (k ∷ filter (λ q. is_any (f q)) ks) (filter (λ q. is_any (f q)) ks)) ≡ f k ++ flat_map f ks
    by_case step [] is =
        ap (λ (l : List ℕ). flat_map f (cond (is_any l) (k ∷ filter (λ q. is_any (f q)) ks) (filter (λ q. is_any (f q)) ks))) is
        ∙ step ∙ ap (λ (l : List ℕ). l ++ flat_map f ks) (sym is)
    by_case step (x ∷ l) is =
        ap (λ (z : List ℕ). flat_map f (cond (is_any z) (k ∷ filter (λ q. is_any (f q)) ks) (filter (λ q. is_any (f q)) ks))) is
        ∙ ap (λ (z : List ℕ). f k ++ z) step

flat_same : (f g : ℕ → List ℕ) → ((q : ℕ) → f q ≡ g q) → (ks : List ℕ) → flat_map f ks ≡ flat_map g ks
flat_same f g same [] = refl
flat_same f g same (k ∷ ks) = ap (λ (l : List ℕ). l ++ flat_map f ks) (same k) ∙ ap (λ (l : List ℕ). g k ++ l) (flat_same f g same ks)

some_slot : (o : Option Asked) → is_any (slot_of o) ≡ true → is_some o ≡ true
some_slot None is = absurd (false≢true is)
some_slot (Some ask) is = refl

pub same_slots : (m n : Requests) → ((q : ℕ) → slot_of (get n q) ≡ slot_of (get m q)) → slots_of n ≡ slots_of m
same_slots m n same =
    sym (flat_filter new (keys n)) ∙ flat_same new old same (filter (λ q. is_any (new q)) (keys n))
    ∙ ap (flat_map old)
    (same_rising (filter (λ q. is_any (new q)) (keys n)) (filter (λ q. is_any (old q)) (keys m)) (rising_filter _ (keys n) (rising_keys (entries n) (entries_sorted n))) (rising_filter _ (keys m) (rising_keys (entries m) (entries_sorted m)))
    (λ q. among_filter q (λ k. is_any (new k)) (keys n) ∙ by_test q (is_any (old q)) refl ∙ sym (among_filter q (λ k. is_any (old k)) (keys m))))
    ∙ flat_filter old (keys m)
  where
    new : ℕ → List ℕ
    new q = slot_of (get n q)

    old : ℕ → List ℕ
    old q = slot_of (get m q)

    both_false : (a b x y : Bool) → a ≡ false → b ≡ false → (a && x) ≡ (b && y)
    both_false true b x y p q = absurd (false≢true (sym p))
    both_false false true x y p q = absurd (false≢true (sym q))
    both_false false false x y p q = refl

    both_in : (a b x y : Bool) → a ≡ true → b ≡ true → x ≡ true → y ≡ true → (a && x) ≡ (b && y)
    both_in true true x y p q r t = r ∙ sym t
    both_in true false x y p q r t = absurd (false≢true q)
    both_in false b x y p q r t = absurd (false≢true p)

    key_of : (k : Requests) (q : ℕ) → is_any (slot_of (get k q)) ≡ true → is_among q (keys k) ≡ true
    key_of k q is = key_among q (entries k) ∙ ap (λ (o : Option Asked). is_some o) (sym (get-entries k q)) ∙ some_slot (get k q) is

    by_test : (q : ℕ) (b : Bool) → is_any (old q) ≡ b → (is_any (new q) && is_among q (keys n)) ≡ (is_any (old q) && is_among q (keys m))
    by_test q false is = both_false (is_any (new q)) (is_any (old q)) _ _ (ap is_any (same q) ∙ is) is
    by_test q true is = both_in (is_any (new q)) (is_any (old q)) _ _ (ap is_any (same q) ∙ is) is (key_of n q (ap is_any (same q) ∙ is)) (key_of m q is)

-- Where the requests on a channel have no slots, the others have all.
pub others_slots : (sid : ℕ) (m : Requests) → slots_of (on_only sid m) ≡ [] → slots_of (without_channel sid m) ≡ slots_of m
others_slots sid m none = same_slots m (without_channel sid m) (λ q. by_test q (is_on sid (get m q)) refl)
  where
    no_sub : (q : ℕ) (ask : Asked) → get (on_only sid m) q ≡ Some ask → (o : Option Sub) → ask.sub ≡ o → [] ≡ slot_of_sub o
    no_sub q ask here None is = refl
    no_sub q ask here (Some sub) is =
        absurd (subst (Has sub.slot) none (has_slot (on_only sid m) sub.slot (record { req = q; ask = ask; sub = sub; here = here; subscribed = is; slot_is = refl })))

    no_slot : (q : ℕ) → is_on sid (get m q) ≡ true → (o : Option Asked) → get m q ≡ o → [] ≡ slot_of o
    no_slot q on None here = refl
    no_slot q on (Some ask) here = no_sub q ask (got_only sid m q ∙ ap (λ (b : Bool). cond b (get m q) None) on ∙ here) ask.sub refl

    by_test : (q : ℕ) (b : Bool) → is_on sid (get m q) ≡ b → slot_of (get (without_channel sid m) q) ≡ slot_of (get m q)
    by_test q false off = ap slot_of (got_without sid m q ∙ ap (λ (b : Bool). cond (not b) (get m q) None) off)
    by_test q true on = ap slot_of (got_without sid m q ∙ ap (λ (b : Bool). cond (not b) (get m q) None) on) ∙ no_slot q on (get m q) refl

-- A monitor changes, and stays one.

pub listed_sent : (ids : List ℕ) (m : Requests) (req : ℕ) (o : Option Asked) → get m req ≡ o → AreListed ids m → AreListed ids (with_sent req o m)
listed_sent ids m req None here listed = listed
listed_sent ids m req (Some ask) here listed = listed_insert ids m req (one_sent ask) listed (λ has. listed req ask here has)

pub listed_steered : (ids : List ℕ) (m : Requests) (req sub : ℕ) (window : Option ℕ) (o : Option Asked) → get m req ≡ o → AreListed ids m → AreListed ids (with_steered req sub window o m)
listed_steered ids m req sub window None here listed = listed
listed_steered ids m req sub window (Some ask) here listed = listed_insert ids m req _ listed (λ has. listed req ask here has)

-- one of a channel is taken out, if there is one
pub listed_taken : (ids : List ℕ) (old new : Tables Channel Sub) (result : Option (ℕ × Asked)) → IfSome result (λ taken. new ≡ without_ask old taken.0) → IfNone result (new ≡ old) → AreListed ids old.asks → AreListed ids new.asks
listed_taken ids old new (Some taken) rest none listed = subst (λ (t : Tables Channel Sub). AreListed ids t.asks) (sym rest) (listed_without ids old.asks taken.0 listed)
listed_taken ids old new None rest none listed = subst (λ (t : Tables Channel Sub). AreListed ids t.asks) (sym none) listed

-- The search for a place.

pub place_goes_on_at : (id : ℕ) (ids : List ℕ) (i d : ℕ) → i < length ids → get_or ids i d < id → (i + 1) + prefix_len (below id) (drop (i + 1) ids) ≡ i + prefix_len (below id) (drop i ids)
place_goes_on_at id ids i d lt less =
    let next : prefix_len (below id) (drop i ids) ≡ 1 + prefix_len (below id) (drop (i + 1) ids) =
    at_drop_more (prefix_len (below id)) ids i d lt
    ∙ (let test : nat_lt (get_or ids i d) id ≡ true = grind (arith, nat_tests) in ap (λ (b : Bool). cond b (1 + prefix_len (below id) (drop (i + 1) ids)) 0) test) in
    omega (arith, next)

pub place_is_here_at : (id : ℕ) (ids : List ℕ) (i d : ℕ) → i < length ids → id ≤ get_or ids i d → i ≡ i + prefix_len (below id) (drop i ids)
place_is_here_at id ids i d lt ge =
    let none : prefix_len (below id) (drop i ids) ≡ 0 =
    at_drop_more (prefix_len (below id)) ids i d lt
    ∙ (let test : nat_lt (get_or ids i d) id ≡ false = grind (arith, nat_tests) in ap (λ (b : Bool). cond b (1 + prefix_len (below id) (drop (i + 1) ids)) 0) test) in
    omega (arith, none)
