-- Sets that hold leaves alone.
use Rattle.std.proofs.Common.{◌≡◌, ◌∙◌, ℕ, ◌+◌, Bool, true, false, cond, ◌||◌, [], ◌∷◌, length, refl, sym, ap}
use Rattle.std.specs.List.{list_any}
use Rattle.std.specs.Cmp.{nat_cmp_total}
use Rattle.std.specs.Ordering.{nat_cmp, eq_by_cmp}
use Rattle.std.specs.FinSet.{FinSet, contains, intersection, contains-intersection, contains-from_list}
use Rattle.std.proofs.lemmas.Bool.{false≢true}
use Rattle.std.proofs.lemmas.List.Folds.{list_any-append}
use Rattle.pvd_type.specs.Tree.{Tree, leaf, node, struct, union, struct_list, union_list, Fields, no_fields, field}
use Rattle.pvd_type.specs.Numbers.{leaves, leaves_from, numbered, numbered_fields}
use Rattle.pvd_type.specs.SameLaws.{both}
use Rattle.pvd_value.specs.Leaves.{leaves_under, leaves_among, marked_leaves}
use Rattle.pvd_codec.specs.Written.{HoldsLeaves}
use Rattle.pvd_codec.proofs.SpelledParts.{leaves_apart}

-- what a set has in common with the leaves of a type
pub meet_holds : (t : Tree) (s mask : FinSet nat_cmp) → mask ≡ intersection s (leaves t) → HoldsLeaves t mask
meet_holds t s mask is n marked =
    (both (contains s n) (contains (leaves t) n) (sym (contains-intersection nat_cmp_total s (leaves t) n) ∙ (λ i. contains (sym is i) n) ∙ marked)).1

either : (a b c d : Bool) → (a ≡ true → c ≡ true) → (b ≡ true → d ≡ true) → (a || b) ≡ true → (c || d) ≡ true
either true b c d f g h = ap (λ x. x || d) (f refl)
either false b true d f g h = refl
either false b false d f g h = g h

module _ (test : ℕ → Bool) (m : ℕ → Bool) where
  one_leaf : (b : Bool) (n : ℕ) → list_any test (cond b (n ∷ []) []) ≡ true → list_any test (n ∷ []) ≡ true
  one_leaf true n h = h
  one_leaf false n h = absurd (false≢true h)

  mutual
    under_leaves : (b : Bool) (n : ℕ) (t : Tree) → list_any test (leaves_under m b n t) ≡ true → list_any test (leaves_from n (numbered t)) ≡ true
    under_leaves b n (leaf l) h = one_leaf (b || m n) n h
    under_leaves b n (node struct id fs) h = among_leaves (b || m n) (n + 1) fs h
    under_leaves b n (node union id fs) h = one_leaf (b || m n) n h
    under_leaves b n (node struct_list id fs) h = one_leaf (b || m n) n h
    under_leaves b n (node union_list id fs) h = one_leaf (b || m n) n h

    among_leaves : (b : Bool) (n : ℕ) (fs : Fields) → list_any test (leaves_among m b n fs) ≡ true → list_any test (leaves_from n (numbered_fields fs)) ≡ true
    among_leaves b n no_fields h = h
    among_leaves b n (field name t fs) h =
        let xs = numbered t in
        let ys = numbered_fields fs in
        let found = either
        (list_any test (leaves_under m b n t)) (list_any test (leaves_among m b (n + length xs) fs)) (list_any test (leaves_from n xs)) (list_any test (leaves_from (n + length xs) ys))
        (under_leaves b n t) (among_leaves b (n + length xs) fs)
        (sym (list_any-append test (leaves_under m b n t) (leaves_among m b (n + length xs) fs)) ∙ h) in
        ap (list_any test) (leaves_apart n xs ys) ∙ list_any-append test (leaves_from n xs) (leaves_from (n + length xs) ys) ∙ found

-- the leaves that some bits mark
pub marked_holds : (t : Tree) (bits : FinSet nat_cmp) → HoldsLeaves t (marked_leaves t bits)
marked_holds t bits q h =
    contains-from_list nat_cmp_total (leaves_from 0 (numbered t)) q
    ∙ under_leaves (eq_by_cmp nat_cmp q) (contains bits) false 0 t (sym (contains-from_list nat_cmp_total (leaves_under (contains bits) false 0 t) q) ∙ h)
