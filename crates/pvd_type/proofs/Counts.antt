-- A type has at most 4,096 nodes, and so at most so many numbers.
use Rattle.std.proofs.Common.{◌≡◌, ℕ, ◌+◌, ◌≤◌, ◌<◌, ◌∙◌, zero, get_or, suc, Bool, true, false, List, [], ◌∷◌, ◌++◌, length, Option, Some, None, refl, ap, arith, cond, ltb, ◌==◌}
use Rattle.std.proofs.lemmas.List.{length-append}
use Rattle.std.proofs.lemmas.Bool.{ltb-false}
use Rattle.pvd_type.specs.Tree.{Tree, leaf, node, struct, union, struct_list, union_list, Fields, no_fields, field}
use Rattle.pvd_type.specs.Numbers.{numbered, numbered_fields, nodes, nodes_in}
use Rattle.pvd_type.specs.View.{shape_view, member_view, members_view}
use Rattle.pvd_type.specs.declared.shape.Member.{Member}
use Rattle.pvd_type.proofs.Walks.{member_is}
use Rattle.pvd_type.specs.Check.{contains, Visit, below, visits, fault_at, label_fault, or_next, first_fault, all_visits, type_fault, IsType, IsFault, Label}
use Rattle.pvd_type.specs.declared.checking.TypeFault.{TypeFault}
use Rattle.pvd_type.specs.declared.checking.TypeFault.TheVariants.{TooDeep, TooMany, EmptyName, SameName, NoMemory}

pub no_next : (a b : Option TypeFault) → or_next a b ≡ None → (a ≡ None) × (b ≡ None)
no_next None b h = (refl, h)
no_next (Some f) b h = absurd cc

pub passed : (a b : Bool) (r : Option TypeFault) → cond a (Some TooDeep) (cond b (Some TooMany) r) ≡ None → (a ≡ false) × (b ≡ false)
passed true b r h = absurd cc
passed false true r h = absurd cc
passed false false r h = (refl, refl)

few_visits : (vs : List Visit) (k : ℕ) → first_fault k vs ≡ None → k ≤ 4096 → k + length vs ≤ 4096
few_visits [] k h few = omega arith
few_visits (v ∷ vs) k h few =
    let both = no_next (fault_at k v) (first_fault (k + 1) vs) h in
    let tests = passed (ltb 32 v.level) (ltb 4095 k) (label_fault v.label) both.0 in
    let room : k ≤ 4095 = ltb-false 4095 k tests.1 in
    let rest = few_visits vs (k + 1) both.1 (omega arith) in
    omega (arith, rest)

mutual
  numbers_below : (level : ℕ) (t : Tree) → length (numbered t) ≤ suc (length (below level t))
  numbers_below level (leaf l) = omega arith
  numbers_below level (node struct id fs) = omega (arith, numbers_among (level + 1) [] fs)
  numbers_below level (node union id fs) = omega arith
  numbers_below level (node struct_list id fs) = omega arith
  numbers_below level (node union_list id fs) = omega arith

  numbers_among : (level : ℕ) (before : List (List ℕ)) (fs : Fields) → length (numbered_fields fs) ≤ length (visits level before fs)
  numbers_among level before no_fields = omega arith
  numbers_among level before (field name t fs) =
      omega (arith, numbers_below level t, numbers_among level (before ++ name ∷ []) fs, length-append (numbered t) (numbered_fields fs), length-append (below level t) (visits level (before ++ name ∷ []) fs))

pub few_numbers : (t : Tree) → IsType t → length (numbered t) ≤ 4096
few_numbers t h = omega (arith, numbers_below 1 t, few_visits (all_visits t) 0 h (omega arith))

mutual
  pub nodes_below : (level : ℕ) (t : Tree) → nodes t ≡ suc (length (below level t))
  nodes_below level (leaf l) = refl
  nodes_below level (node k id fs) = ap suc (nodes_among (level + 1) [] fs)

  pub nodes_among : (level : ℕ) (before : List (List ℕ)) (fs : Fields) → nodes_in fs ≡ length (visits level before fs)
  nodes_among level before no_fields = refl
  nodes_among level before (field name t fs) =
      omega (arith, nodes_below level t, nodes_among level (before ++ name ∷ []) fs, length-append (below level t) (visits level (before ++ name ∷ []) fs))

pub few_nodes : (t : Tree) → IsType t → nodes t ≤ 4096
few_nodes t h = omega (arith, nodes_below 1 t, few_visits (all_visits t) 0 h (omega arith))

no_memory_label : (l : Option Label) → label_fault l ≡ Some NoMemory → ⊥
no_memory_label None e = cc
no_memory_label (Some l) e = none (length l.name == 0) (contains l.name l.before) e
  where
    none : (a b : Bool) → cond a (Some EmptyName) (cond b (Some SameName) None) ≡ Some NoMemory → ⊥
    none true b e = cc
    none false true e = cc
    none false false e = cc

no_memory_at : (a b : Bool) (l : Option Label) → cond a (Some TooDeep) (cond b (Some TooMany) (label_fault l)) ≡ Some NoMemory → ⊥
no_memory_at true b l e = cc
no_memory_at false true l e = cc
no_memory_at false false l e = no_memory_label l e

no_memory : (k : ℕ) (vs : List Visit) → first_fault k vs ≡ Some NoMemory → ⊥
no_memory k [] e = cc
no_memory k (v ∷ vs) e = either (fault_at k v) (first_fault (k + 1) vs) (no_memory_at (ltb 32 v.level) (ltb 4095 k) v.label) (no_memory (k + 1) vs) e
  where
    either : (a b : Option TypeFault) → (a ≡ Some NoMemory → ⊥) → (b ≡ Some NoMemory → ⊥) → or_next a b ≡ Some NoMemory → ⊥
    either None b h g e = g e
    either (Some f) b h g e = h e

-- the first fault of a tree is its cause
pub fault_known : (t : Tree) (f : TypeFault) → type_fault t ≡ Some f → IsFault t f
fault_known t TooDeep e = e
fault_known t TooMany e = e
fault_known t EmptyName e = e
fault_known t SameName e = e
fault_known t NoMemory e = absurd (no_memory 0 (all_visits t) e)

-- a member has no more nodes than all members
pub nodes_within : (ms : List Member) (i : ℕ) (m : Member) → i < length ms → get_or ms i m ≡ m → nodes (shape_view m.shape) ≤ nodes_in (members_view ms)
nodes_within [] i m h e = absurd (omega arith)
nodes_within (x ∷ xs) zero m h e =
    let here : member_view x ≡ (m.name, shape_view m.shape) = ap member_view e ∙ member_is m in
    omega (arith, ap (λ (p : List ℕ × Tree). nodes p.1) here)
nodes_within (x ∷ xs) (suc i) m h e = omega (arith, nodes_within xs i m (omega arith) e)
