-- The marked numbers under which two values differ.
use Rattle.std.proofs.Common.{◌≡◌, ℕ, ◌+◌, Bool, true, false, cond, not, ◌&&◌, List, [], ◌∷◌, length, Option, Some, None, nat_cmp, refl, sym, ap, ◌∙◌, arith}
use Rattle.std.proofs.lemmas.Bool.{false≢true, eqb-true}
use Rattle.std.proofs.lemmas.Map.Views.{any-filter_same}
use Rattle.std.specs.Bool.{Decides}
use Rattle.std.specs.List.{filter}
use Rattle.std.specs.Cmp.{nat_cmp_total}
use Rattle.std.specs.Ordering.{eq_by_cmp}
use Rattle.std.specs.FinSet.{FinSet, contains, from_list, contains-from_list, contains-retain, nat_cmp-IsAntisymmetric}
use Rattle.pvd_type.proofs.Sets.{same, by_cmp}
use Rattle.pvd_type.specs.Tree.{Tree}
use Rattle.pvd_value.specs.Data.{Data}
use Rattle.pvd_value.specs.Fits.{fits_of}
use Rattle.pvd_value.specs.Leaves.{slots, leaf_at}
use Rattle.pvd_value.specs.LeafValues.{leaf_values, differing_in}
use Rattle.pvd_value.specs.Same.{same_slot, differing}
use Rattle.pvd_value.proofs.Slots.{slots_length}
use Rattle.pvd_value.proofs.Sameness.{same_data-Decides, in_differing}
use Rattle.pvd_value.proofs.Unmarked.{Misses}

-- where no number is marked, none is found
pub filter_none : (mask : ℕ → Bool) (n : ℕ) (xs ys : List (Option Data)) → Misses mask n (length xs) → filter mask (differing n xs ys) ≡ []
filter_none mask n [] ys none = refl
filter_none mask n (x ∷ xs) [] none = refl
filter_none mask n (x ∷ xs) (y ∷ ys) none =
    step (same_slot x y) (filter_none mask (n + 1) xs ys (λ k from to. none k (omega (arith, from)) (omega (arith, to))))
  where
    step : (b : Bool) → filter mask (differing (n + 1) xs ys) ≡ [] → filter mask (cond b (differing (n + 1) xs ys) (n ∷ differing (n + 1) xs ys)) ≡ []
    step true rest = rest
    step false rest = ap (λ (m : Bool). cond m (n ∷ filter mask (differing (n + 1) xs ys)) (filter mask (differing (n + 1) xs ys))) (none n (omega arith) (omega arith)) ∙ rest

-- what stands in a list that was filtered
in_filtered : (p : ℕ → Bool) (ns : List ℕ) (k : ℕ) → contains (from_list {R = nat_cmp} (filter p ns)) k ≡ (p k && contains (from_list {R = nat_cmp} ns) k)
in_filtered p ns k =
    contains-from_list nat_cmp_total (filter p ns) k
    ∙ any-filter_same (eq_by_cmp nat_cmp k) p (p k) (λ j e. ap p (sym (eqb-true k j (sym (by_cmp k j) ∙ e)))) ns
    ∙ ap (λ (b : Bool). p k && b) (sym (contains-from_list nat_cmp_total ns k))

slot_tells : (x y : Option Data) → Decides (same_slot x y) (x ≡ y)
slot_tells None None = (λ h. refl, λ e. refl)
slot_tells None (Some y) = (λ h. absurd (false≢true h), λ e. absurd (let never : ⊥ = cc in never))
slot_tells (Some x) None = (λ h. absurd (false≢true h), λ e. absurd (let never : ⊥ = cc in never))
slot_tells (Some x) (Some y) = (λ h. ap Some ((same_data-Decides x y).0 h), λ e. (same_data-Decides x y).1 (let is : x ≡ y = cc in is))

opposite : (a b : Bool) (P : Type 0) → Decides a (P → ⊥) → Decides b P → a ≡ not b
opposite true true P d e = absurd (d.0 refl (e.0 refl))
opposite true false P d e = refl
opposite false true P d e = refl
opposite false false P d e = absurd (false≢true (d.1 (λ p. false≢true (e.1 p))))

-- the marked numbers of a list of differences are the set of the marked leaves that differ
pub marked_differences : (t : Tree) (a b : Data) (mask : FinSet nat_cmp) → fits_of 16 a t ≡ true → fits_of 16 b t ≡ true
    → from_list (filter (contains mask) (differing 0 (slots t a) (slots t b))) ≡ differing_in mask (leaf_values t a) (leaf_values t b)
marked_differences t a b mask h g = same _ _ (λ k.
    in_filtered (contains mask) (differing 0 (slots t a) (slots t b)) k
    ∙ ap (λ (x : Bool). contains mask k && x) (opposite (contains (from_list {R = nat_cmp} (differing 0 (slots t a) (slots t b))) k) (same_slot (leaf_at k t a) (leaf_at k t b)) (leaf_at k t a ≡ leaf_at k t b)
    (in_differing (slots t a) (slots t b) k (slots_length 16 a t h ∙ sym (slots_length 16 b t g))) (slot_tells (leaf_at k t a) (leaf_at k t b)))
    ∙ sym (contains-retain mask (λ j. not (same_slot (leaf_at j t a) (leaf_at j t b))) k (λ x e. ap (λ j. not (same_slot (leaf_at j t a) (leaf_at j t b))) (sym (nat_cmp-IsAntisymmetric k x e)))))
