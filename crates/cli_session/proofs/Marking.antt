-- Only bits that are numbers of a type's nodes mark leaves.
use Rattle.std.proofs.Common.{◌≡◌, ℕ, ◌+◌, ◌<◌, ◌≤◌, Bool, true, false, cond, eqb, ltb, ◌||◌, ◌&&◌, List, [], ◌∷◌, ◌++◌, length, refl, ap, sym, ◌∙◌, arith}
use Rattle.std.proofs.lemmas.Bool.{eqb-true, lt-ltb, le-ltb}
use Rattle.std.proofs.lemmas.Bool.Decides.{nat_tests}
use Rattle.std.proofs.lemmas.List.{length-append}
use Rattle.std.specs.Ordering.{nat_cmp}
use Rattle.std.specs.FinSet.{FinSet, contains, insert, empty, from_list, contains-empty}
use Rattle.pvd_type.proofs.Sets.{in_insert}
use Rattle.pvd_type.specs.Numbers.{numbered, numbered_fields}
use Rattle.pvd_type.specs.Tree.{Tree, leaf, node, struct, union, struct_list, union_list, Fields, no_fields, field}
use Rattle.pvd_value.specs.Leaves.{leaves_under, leaves_among, marked_leaves}

-- The bits below a bound that a set has.
abbrev pub HasBelow : FinSet nat_cmp → FinSet nat_cmp → ℕ → Type 0
HasBelow found bits bound = (q : ℕ) → contains found q ≡ (ltb q bound && contains bits q)

at_bound : (q n : ℕ) (m : Bool) → (eqb q n ≡ true → m ≡ true) → (eqb q n || (ltb q n && m)) ≡ (ltb q (n + 1) && m)
at_bound q n m same = grind (arith, nat_tests)

past_bound : (q n : ℕ) (m : Bool) → (eqb q n ≡ true → m ≡ false) → (ltb q n && m) ≡ (ltb q (n + 1) && m)
past_bound q n m same = grind (arith, nat_tests)

pub has_none : (found bits : FinSet nat_cmp) → found ≡ empty → HasBelow found bits 0
has_none found bits is q = ap (λ (s : FinSet nat_cmp). contains s q) is ∙ contains-empty nat_cmp q ∙ sym (ap (λ (b : Bool). b && contains bits q) (le-ltb q 0 (omega arith)))

pub has_more : (found bits new : FinSet nat_cmp) (n : ℕ) → HasBelow found bits n → contains bits n ≡ true → new ≡ insert found n → HasBelow new bits (n + 1)
has_more found bits new n below here is q =
    ap (λ (s : FinSet nat_cmp). contains s q) is ∙ in_insert found n q ∙ ap (λ (b : Bool). eqb q n || b) (below q)
    ∙ at_bound q n (contains bits q) (λ e. ap (contains bits) (eqb-true q n e) ∙ here)

pub has_none_more : (found bits : FinSet nat_cmp) (n : ℕ) → HasBelow found bits n → contains bits n ≡ false → HasBelow found bits (n + 1)
has_none_more found bits n below here q = below q ∙ past_bound q n (contains bits q) (λ e. ap (contains bits) (eqb-true q n e) ∙ here)

-- Two sets of marks that agree on all numbers of a node and those below it mark the same leaves.
module _ (m k : ℕ → Bool) (bound : ℕ) (agree : (q : ℕ) → q < bound → m q ≡ k q) where
  mutual
    under_same : (inside : Bool) (n : ℕ) (t : Tree) → n + length (numbered t) ≤ bound → leaves_under m inside n t ≡ leaves_under k inside n t
    under_same inside n (leaf l) h = ap (λ (b : Bool). cond (inside || b) (n ∷ []) []) (agree n (omega arith))
    under_same inside n (node struct id fs) h =
        ap (λ (b : Bool). leaves_among m (inside || b) (n + 1) fs) (agree n (omega arith)) ∙ among_same (inside || k n) (n + 1) fs (omega arith)
    under_same inside n (node union id fs) h = ap (λ (b : Bool). cond (inside || b) (n ∷ []) []) (agree n (omega arith))
    under_same inside n (node struct_list id fs) h = ap (λ (b : Bool). cond (inside || b) (n ∷ []) []) (agree n (omega arith))
    under_same inside n (node union_list id fs) h = ap (λ (b : Bool). cond (inside || b) (n ∷ []) []) (agree n (omega arith))

    among_same : (inside : Bool) (n : ℕ) (fs : Fields) → n + length (numbered_fields fs) ≤ bound → leaves_among m inside n fs ≡ leaves_among k inside n fs
    among_same inside n no_fields h = refl
    among_same inside n (field name t fs) h =
        let size = length-append (numbered t) (numbered_fields fs) in
        ap (λ (xs : List ℕ). xs ++ leaves_among m inside (n + length (numbered t)) fs) (under_same inside n t (omega (arith, size)))
        ∙ ap (λ (xs : List ℕ). leaves_under k inside n t ++ xs) (among_same inside (n + length (numbered t)) fs (omega (arith, size)))

pub marks_within : (t : Tree) (found bits : FinSet nat_cmp) (bound : ℕ) → length (numbered t) ≤ bound → HasBelow found bits bound → marked_leaves t found ≡ marked_leaves t bits
marks_within t found bits bound long below =
    ap from_list (under_same (contains found) (contains bits) bound (λ q less. below q ∙ ap (λ (b : Bool). b && contains bits q) (lt-ltb q bound less)) false 0 t (omega arith))
