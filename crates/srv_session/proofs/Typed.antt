-- A part of a type is a type.
use Rattle.std.proofs.Common.{◌≡◌, ℕ, zero, suc, ◌+◌, ◌≤◌, Bool, true, false, cond, List, [], ◌∷◌, ◌++◌, length, Option, None, Some, refl, sym, ◌∙◌, ap, subst, arith}
use Rattle.std.specs.Prelude.{slice_get, nat_lt}
use Rattle.std.proofs.lemmas.Bool.Decides.{nat_tests}
use Rattle.std.proofs.lemmas.Option.{none-some}
use Rattle.pvd_type.specs.Tree.{Tree, leaf, node, struct, union, struct_list, union_list, Fields, no_fields, field}
use Rattle.pvd_type.specs.Numbers.{numbered, numbered_fields}
use Rattle.pvd_type.specs.Check.{Label, Visit, below, visits, label_fault, fault_at, or_next, first_fault, IsType}
use Rattle.pvd_type.specs.declared.checking.TypeFault.{TypeFault}
use Rattle.pvd_type.specs.declared.checking.TypeFault.TheVariants.{TooDeep, TooMany}
use Rattle.pvd_type.proofs.Counts.{nodes_below}

-- A node without a fault has none on a level that is no greater, after no more nodes.

three_none : (a b : Bool) (l : Option TypeFault) → cond a (Some TooDeep) (cond b (Some TooMany) l) ≡ None → (a ≡ false) × ((b ≡ false) × (l ≡ None))
three_none true b l e = absurd (none-some TooDeep (sym e))
three_none false true l e = absurd (none-some TooMany (sym e))
three_none false false l e = (refl, (refl, e))

none_three : (a b : Bool) (l : Option TypeFault) → a ≡ false → b ≡ false → l ≡ None → cond a (Some TooDeep) (cond b (Some TooMany) l) ≡ None
none_three a b l p q r = ap (λ (x : Bool). cond x (Some TooDeep) (cond b (Some TooMany) l)) p ∙ ap (λ (x : Bool). cond x (Some TooMany) l) q ∙ r

abbrev at_label : ℕ → Option Label → Visit
at_label level label = record { level = level; label = label }

lowered : (j k low high : ℕ) (label : Option Label) → j ≤ k → low ≤ high → fault_at k (at_label high label) ≡ None → fault_at j (at_label low label) ≡ None
lowered j k low high label few flat e =
    let all = three_none (nat_lt 32 high) (nat_lt 4095 k) (label_fault label) e in
    let deep = all.0 in
    let many = all.1.0 in
    let p : nat_lt 32 low ≡ false = grind (arith, nat_tests) in
    let q : nat_lt 4095 j ≡ false = grind (arith, nat_tests) in
    none_three (nat_lt 32 low) (nat_lt 4095 j) (label_fault label) p q all.1.1

-- No fault among nodes, one after another.

both_none : (a b : Option TypeFault) → or_next a b ≡ None → (a ≡ None) × (b ≡ None)
both_none None b e = (refl, e)
both_none (Some f) b e = absurd (none-some f (sym e))

none_both : (a b : Option TypeFault) → a ≡ None → b ≡ None → or_next a b ≡ None
none_both a b p q = ap (λ (x : Option TypeFault). or_next x b) p ∙ q

halves : (k : ℕ) (xs ys : List Visit) → first_fault k (xs ++ ys) ≡ None → (first_fault k xs ≡ None) × (first_fault (k + length xs) ys ≡ None)
halves k [] ys e = let same : k + 0 ≡ k = omega arith in (refl, ap (λ (n : ℕ). first_fault n ys) same ∙ e)
halves k (x ∷ xs) ys e =
    let p = both_none (fault_at k x) (first_fault (k + 1) (xs ++ ys)) e in
    let rest = halves (k + 1) xs ys p.1 in
    let same : k + length (x ∷ xs) ≡ (k + 1) + length xs = omega arith in
    (none_both (fault_at k x) (first_fault (k + 1) xs) p.0 rest.0, ap (λ (n : ℕ). first_fault n ys) same ∙ rest.1)

whole : (k : ℕ) (xs ys : List Visit) → first_fault k xs ≡ None → first_fault (k + length xs) ys ≡ None → first_fault k (xs ++ ys) ≡ None
whole k [] ys a b = let same : k + 0 ≡ k = omega arith in ap (λ (n : ℕ). first_fault n ys) (sym same) ∙ b
whole k (x ∷ xs) ys a b =
    let p = both_none (fault_at k x) (first_fault (k + 1) xs) a in
    let same : k + length (x ∷ xs) ≡ (k + 1) + length xs = omega arith in
    none_both (fault_at k x) (first_fault (k + 1) (xs ++ ys)) p.0 (whole (k + 1) xs ys p.1 (ap (λ (n : ℕ). first_fault n ys) (sym same) ∙ b))

mutual
  below_lower : (t : Tree) (j k low high : ℕ) → j ≤ k → low ≤ high → first_fault k (below high t) ≡ None → first_fault j (below low t) ≡ None
  below_lower (leaf l) j k low high few flat e = refl
  below_lower (node kind id fs) j k low high few flat e = visits_lower fs [] j k (low + 1) (high + 1) few (omega (arith, flat)) e

  visits_lower : (fs : Fields) (before : List (List ℕ)) (j k low high : ℕ) → j ≤ k → low ≤ high → first_fault k (visits high before fs) ≡ None → first_fault j (visits low before fs) ≡ None
  visits_lower no_fields before j k low high few flat e = refl
  visits_lower (field name t fs) before j k low high few flat e =
      let label = Some (record { name = name; before = before }) in
      let p = both_none (fault_at k (at_label high label)) (first_fault (k + 1) (below high t ++ visits high (before ++ name ∷ []) fs)) e in
      let parts = halves (k + 1) (below high t) (visits high (before ++ name ∷ []) fs) p.1 in
      none_both (fault_at j (at_label low label)) (first_fault (j + 1) (below low t ++ visits low (before ++ name ∷ []) fs)) (lowered j k low high label few flat p.0)
      (whole (j + 1) (below low t) (visits low (before ++ name ∷ []) fs) (below_lower t (j + 1) (k + 1) low high (omega (arith, few)) flat parts.0)
      (visits_lower fs (before ++ name ∷ []) ((j + 1) + length (below low t)) ((k + 1) + length (below high t)) low high (omega (arith, few, nodes_below low t, nodes_below high t)) flat parts.1))

-- Each numbered part is a type.

abbrev AreTypes : List Tree → Type 0
AreTypes [] = Unit {0}
AreTypes (t ∷ ts) = (first_fault 1 (below 1 t) ≡ None) × AreTypes ts

types_append : (xs ys : List Tree) → AreTypes xs → AreTypes ys → AreTypes (xs ++ ys)
types_append [] ys a b = b
types_append (x ∷ xs) ys a b = (a.0, types_append xs ys a.1 b)

types_get : (ts : List Tree) (n : ℕ) (t : Tree) → AreTypes ts → slice_get ts n ≡ Some t → first_fault 1 (below 1 t) ≡ None
types_get [] n t all is = absurd (none-some t is)
types_get (u ∷ ts) zero t all is = subst (λ (x : Tree). first_fault 1 (below 1 x) ≡ None) (same_some is) all.0
  where
    same_some : {x y : Tree} → Some x ≡ Some y → x ≡ y
    same_some e = cc
types_get (u ∷ ts) (suc n) t all is = types_get ts n t all.1 is

mutual
  parts_below : (t : Tree) (k level : ℕ) → 1 ≤ k → 1 ≤ level → first_fault k (below level t) ≡ None → AreTypes (numbered t)
  parts_below (leaf l) k level few flat e = (refl, tt)
  parts_below (node struct id fs) k level few flat e =
      (below_lower (node struct id fs) 1 k 1 level few flat e, parts_among fs [] k (level + 1) few (omega (arith, flat)) e)
  parts_below (node union id fs) k level few flat e = (below_lower (node union id fs) 1 k 1 level few flat e, tt)
  parts_below (node struct_list id fs) k level few flat e = (below_lower (node struct_list id fs) 1 k 1 level few flat e, tt)
  parts_below (node union_list id fs) k level few flat e = (below_lower (node union_list id fs) 1 k 1 level few flat e, tt)

  parts_among : (fs : Fields) (before : List (List ℕ)) (k level : ℕ) → 1 ≤ k → 1 ≤ level → first_fault k (visits level before fs) ≡ None → AreTypes (numbered_fields fs)
  parts_among no_fields before k level few flat e = tt
  parts_among (field name t fs) before k level few flat e =
      let label = Some (record { name = name; before = before }) in
      let p = both_none (fault_at k (at_label level label)) (first_fault (k + 1) (below level t ++ visits level (before ++ name ∷ []) fs)) e in
      let parts = halves (k + 1) (below level t) (visits level (before ++ name ∷ []) fs) p.1 in
      types_append (numbered t) (numbered_fields fs) (parts_below t (k + 1) level (omega (arith, few)) flat parts.0)
      (parts_among fs (before ++ name ∷ []) ((k + 1) + length (below level t)) level (omega (arith, few)) flat parts.1)

pub part_is_type : (t : Tree) (n : ℕ) (u : Tree) → IsType t → slice_get (numbered t) n ≡ Some u → IsType u
part_is_type t n u is found = types_get (numbered t) n u (parts_below t 1 1 (omega arith) (omega arith) is) found
