-- Sets of leaves.
use Rattle.std.proofs.Common.{◌≡◌, ◌∙◌, ℕ, zero, suc, ◌+◌, ◌<◌, Bool, true, false, ◌&&◌, nat_cmp, List, [], ◌∷◌, ◌++◌, length, refl, sym, ap, arith}
use Rattle.std.specs.List.{filter, list_any}
use Rattle.std.specs.Ordering.{eq_by_cmp}
use Rattle.std.specs.Cmp.{nat_cmp_total}
use Rattle.std.specs.FinSet.{FinSet, contains, contains-from_list, is_subset-contains}
use Rattle.std.proofs.lemmas.Bool.{false≢true, eqb-true}
use Rattle.std.proofs.lemmas.List.{length-append}
use Rattle.std.proofs.lemmas.List.Elements.{filter-append}
use Rattle.std.proofs.lemmas.Map.Views.{any-filter_same}
use Rattle.pvd_type.specs.Tree.{Tree, leaf, node, struct, union, struct_list, union_list, Fields, no_fields, field}
use Rattle.pvd_type.specs.Numbers.{numbered, numbered_fields, leaves, leaves_from}
use Rattle.pvd_type.proofs.Leaves.{leaf_flag, in_leaves}
use Rattle.pvd_type.proofs.Sets.{same, by_cmp}
use Rattle.pvd_value.specs.Leaves.{leaves_under, leaves_among, marked_leaves}
use Rattle.pvd_codec.proofs.SpelledParts.{leaves_apart}
use Rattle.mon_queue.specs.Told.{are_leaves}

-- whether the nodes under the marked ones of these numbers are leaves
abbrev Flagged : (ℕ → Bool) → ℕ → List Tree → Type 0
Flagged m n ts = (k : ℕ) → k < length ts → m (n + k) ≡ true → leaf_flag ts k ≡ true

flag_left : (xs ys : List Tree) (k : ℕ) → k < length xs → leaf_flag (xs ++ ys) k ≡ leaf_flag xs k
flag_left [] ys k h = absurd (omega arith)
flag_left (x ∷ xs) ys zero h = refl
flag_left (x ∷ xs) ys (suc k) h = flag_left xs ys k (omega arith)

flag_right : (xs ys : List Tree) (k : ℕ) → leaf_flag (xs ++ ys) (length xs + k) ≡ leaf_flag ys k
flag_right [] ys k = let e : 0 + k ≡ k = omega arith in ap (leaf_flag ys) e
flag_right (x ∷ xs) ys k =
    let e : suc (length xs) + k ≡ suc (length xs + k) = omega arith in
    ap (leaf_flag (x ∷ (xs ++ ys))) e ∙ flag_right xs ys k

not_true : (b : Bool) → (b ≡ true → ⊥) → b ≡ false
not_true true h = absurd (h refl)
not_true false h = refl

-- the marked ones of the first nodes, and of those after them
flagged_left : (m : ℕ → Bool) (n : ℕ) (xs ys : List Tree) → Flagged m n (xs ++ ys) → Flagged m n xs
flagged_left m n xs ys h k within marked = sym (flag_left xs ys k within) ∙ h k (omega (arith, length-append xs ys)) marked

flagged_right : (m : ℕ → Bool) (n : ℕ) (xs ys : List Tree) → Flagged m n (xs ++ ys) → Flagged m (n + length xs) ys
flagged_right m n xs ys h k within marked =
    let e : n + (length xs + k) ≡ (n + length xs) + k = omega arith in
    sym (flag_right xs ys k) ∙ h (length xs + k) (omega (arith, length-append xs ys)) (ap m e ∙ marked)

mutual
  under_is : (m : ℕ → Bool) (n : ℕ) (t : Tree) → Flagged m n (numbered t) → leaves_under m false n t ≡ filter m (leaves_from n (numbered t))
  under_is m n (leaf l) h = refl
  under_is m n (node struct id fs) h =
      let e : n + 0 ≡ n = omega arith in
      let none : m n ≡ false = not_true (m n) (λ p. false≢true (h 0 (omega arith) (ap m e ∙ p))) in
      let rest : Flagged m (n + 1) (numbered_fields fs) = λ k within marked. h (suc k) (omega arith) (let f : n + suc k ≡ (n + 1) + k = omega arith in ap m f ∙ marked) in
      ap (λ b. leaves_among m b (n + 1) fs) none ∙ among_is m (n + 1) fs rest
  under_is m n (node union id fs) h = refl
  under_is m n (node struct_list id fs) h = refl
  under_is m n (node union_list id fs) h = refl

  among_is : (m : ℕ → Bool) (n : ℕ) (fs : Fields) → Flagged m n (numbered_fields fs) → leaves_among m false n fs ≡ filter m (leaves_from n (numbered_fields fs))
  among_is m n no_fields h = refl
  among_is m n (field name t fs) h =
      let xs = numbered t in
      let ys = numbered_fields fs in
      (λ i. under_is m n t (flagged_left m n xs ys h) i ++ among_is m (n + length xs) fs (flagged_right m n xs ys h) i)
      ∙ sym (filter-append m (leaves_from n xs) (leaves_from (n + length xs) ys))
      ∙ ap (filter m) (sym (leaves_apart n xs ys))

-- Leaves alone stand for themselves.
pub leaves_stay : (t : Tree) (mask : FinSet nat_cmp) → are_leaves t mask ≡ true → marked_leaves t mask ≡ mask
leaves_stay t mask are = sym (same mask (marked_leaves t mask) here)
  where
    holds : (q : ℕ) → contains mask q ≡ true → contains (leaves t) q ≡ true
    holds q is = is_subset-contains nat_cmp_total mask (leaves t) are q is

    flagged : Flagged (contains mask) 0 (numbered t)
    flagged k within marked = let e : 0 + k ≡ k = omega arith in sym (in_leaves t k) ∙ holds k (ap (contains mask) (sym e) ∙ marked)

    is_known : (b c : Bool) → (b ≡ true → c ≡ true) → b ≡ (b && c)
    is_known true c h = sym (h refl)
    is_known false c h = refl

    here : (q : ℕ) → contains mask q ≡ contains (marked_leaves t mask) q
    here q =
        let ks = leaves_from 0 (numbered t) in
        let test : ℕ → Bool = eq_by_cmp nat_cmp q in
        let all : contains (leaves t) q ≡ list_any test ks = contains-from_list nat_cmp_total ks q in
        let kept : list_any test (filter (contains mask) ks) ≡ (contains mask q && list_any test ks) =
        any-filter_same test (contains mask) (contains mask q) (λ k e. ap (contains mask) (sym (eqb-true q k (sym (by_cmp q k) ∙ e)))) ks in
        is_known (contains mask q) (list_any test ks) (λ p. sym all ∙ holds q p)
        ∙ sym kept
        ∙ ap (list_any test) (sym (under_is (contains mask) 0 t flagged))
        ∙ sym (contains-from_list nat_cmp_total (leaves_under (contains mask) false 0 t) q)
