-- Leaves collected one node after another.
use Rattle.std.proofs.Common.{◌≡◌, ℕ, zero, suc, ◌+◌, ◌<◌, map, Bool, true, false, cond, ◌||◌, List, [], ◌∷◌, ◌++◌, length, fold, nat_cmp, refl, sym, ap, ◌∙◌, arith, add-zero}
use Rattle.std.proofs.lemmas.List.Sums.{fold-append}
use Rattle.std.specs.Prelude.{slice_get, unwrap_or}
use Rattle.std.proofs.lemmas.Bool.{eq-eqb}
use Rattle.std.specs.List.{list_any}
use Rattle.std.specs.Ordering.{eq_by_cmp}
use Rattle.std.specs.Cmp.{nat_cmp_total}
use Rattle.std.specs.FinSet as fin
use Rattle.std.specs.FinSet.{FinSet, contains-insert, contains-from_list, contains-empty}
use Rattle.pvd_type.specs.Tree.{Tree}
use Rattle.pvd_type.specs.Numbers.{is_leaf, leaves, leaves_from, numbered}
use Rattle.pvd_type.proofs.Sets.{same, by_cmp, differs}

leaves_from-append : (n : ℕ) (xs ys : List Tree) → leaves_from n (xs ++ ys) ≡ leaves_from n xs ++ leaves_from (n + length xs) ys
leaves_from-append n [] ys = ap (λ k. leaves_from k ys) (sym (add-zero n))
leaves_from-append n (x ∷ xs) ys =
    let e : (n + 1) + length xs ≡ n + suc (length xs) = omega arith in
    step (is_leaf x) n _ _ _ (leaves_from-append (n + 1) xs ys ∙ ap (λ k. leaves_from (n + 1) xs ++ leaves_from k ys) e)
  where
    step : (b : Bool) (n : ℕ) (xs bs cs : List ℕ) → xs ≡ bs ++ cs → cond b (n ∷ xs) xs ≡ cond b (n ∷ bs) bs ++ cs
    step true n xs bs cs e = ap (λ zs. n ∷ zs) e
    step false n xs bs cs e = e

pub collected_more : (s : FinSet nat_cmp) (n : ℕ) (xs ys : List Tree)
    → fold fin.insert s (leaves_from n (xs ++ ys)) ≡ fold fin.insert (fold fin.insert s (leaves_from n xs)) (leaves_from (n + length xs) ys)
collected_more s n xs ys = ap (fold fin.insert s) (leaves_from-append n xs ys) ∙ fold-append fin.insert s (leaves_from n xs) (leaves_from (n + length xs) ys)

or_swap : (a b c : Bool) → (a || (b || c)) ≡ (b || (a || c))
or_swap true true c = refl
or_swap true false c = refl
or_swap false b c = refl

in_fold : (s : FinSet nat_cmp) (ks : List ℕ) (q : ℕ) → fin.contains (fold fin.insert s ks) q ≡ (list_any (eq_by_cmp nat_cmp q) ks || fin.contains s q)
in_fold s [] q = refl
in_fold s (k ∷ ks) q =
    in_fold (fin.insert s k) ks q ∙ ap (λ b. list_any (eq_by_cmp nat_cmp q) ks || b) (contains-insert nat_cmp_total s k q)
    ∙ or_swap (list_any (eq_by_cmp nat_cmp q) ks) (eq_by_cmp nat_cmp q k) (fin.contains s q)
    ∙ or_assoc (eq_by_cmp nat_cmp q k) (list_any (eq_by_cmp nat_cmp q) ks) (fin.contains s q)
  where
    or_assoc : (a b c : Bool) → (a || (b || c)) ≡ ((a || b) || c)
    or_assoc true b c = refl
    or_assoc false b c = refl

-- numbers put in one after another are the set of their list
pub fold_is_set : (ks : List ℕ) → fold fin.insert (fin.empty {R = nat_cmp}) ks ≡ fin.from_list ks
fold_is_set ks =
    same _ _ (λ q. in_fold fin.empty ks q ∙ ap (λ b. list_any (eq_by_cmp nat_cmp q) ks || b) (contains-empty nat_cmp q) ∙ or_false (list_any (eq_by_cmp nat_cmp q) ks)
    ∙ sym (contains-from_list nat_cmp_total ks q))
  where
    or_false : (b : Bool) → (b || false) ≡ b
    or_false true = refl
    or_false false = refl

-- no leaf stands below the number from which nodes are numbered
leaves_start : (q n : ℕ) (ts : List Tree) → q < n → list_any (eq_by_cmp nat_cmp q) (leaves_from n ts) ≡ false
leaves_start q n [] h = refl
leaves_start q n (t ∷ ts) h = step (is_leaf t) (leaves_start q (n + 1) ts (omega arith))
  where
    step : (b : Bool) → list_any (eq_by_cmp nat_cmp q) (leaves_from (n + 1) ts) ≡ false → list_any (eq_by_cmp nat_cmp q) (cond b (n ∷ leaves_from (n + 1) ts) (leaves_from (n + 1) ts)) ≡ false
    step true e = rw (by_cmp q n, differs q n (λ p. omega (arith, p))) e
    step false e = e

-- whether the node under a number is a leaf
abbrev pub leaf_flag : List Tree → ℕ → Bool
leaf_flag ts k = unwrap_or (slice_get (map is_leaf ts) k) false

leaf_found : (n k : ℕ) (ts : List Tree) → list_any (eq_by_cmp nat_cmp (n + k)) (leaves_from n ts) ≡ leaf_flag ts k
leaf_found n k [] = refl
leaf_found n zero (t ∷ ts) = let e : n ≡ n + 0 = omega arith in ap (λ q. list_any (eq_by_cmp nat_cmp q) (leaves_from n (t ∷ ts))) (sym e) ∙ step (is_leaf t)
  where
    step : (b : Bool) → list_any (eq_by_cmp nat_cmp n) (cond b (n ∷ leaves_from (n + 1) ts) (leaves_from (n + 1) ts)) ≡ b
    step true = rw (by_cmp n n, eq-eqb n n refl) refl
    step false = leaves_start n (n + 1) ts (omega arith)
leaf_found n (suc k) (t ∷ ts) =
    let e : n + suc k ≡ (n + 1) + k = omega arith in
    ap (λ q. list_any (eq_by_cmp nat_cmp q) (leaves_from n (t ∷ ts))) e ∙ step (is_leaf t) ∙ leaf_found (n + 1) k ts
  where
    step : (b : Bool) → list_any (eq_by_cmp nat_cmp ((n + 1) + k)) (cond b (n ∷ leaves_from (n + 1) ts) (leaves_from (n + 1) ts)) ≡ list_any (eq_by_cmp nat_cmp ((n + 1) + k)) (leaves_from (n + 1) ts)
    step true = rw (by_cmp ((n + 1) + k) n, differs ((n + 1) + k) n (λ p. omega (arith, p))) refl
    step false = refl

-- a number is a leaf's just where the node under it is a leaf
pub in_leaves : (t : Tree) (k : ℕ) → fin.contains (leaves t) k ≡ leaf_flag (numbered t) k
in_leaves t k =
    let e : k ≡ 0 + k = omega arith in
    contains-from_list nat_cmp_total (leaves_from 0 (numbered t)) k ∙ ap (λ q. list_any (eq_by_cmp nat_cmp q) (leaves_from 0 (numbered t))) e ∙ leaf_found 0 k (numbered t)
