-- No name of a type has a fault, and so none has one where the type stands in another.
use Rattle.std.proofs.Common.{◌≡◌, ℕ, ◌+◌, List, [], ◌∷◌, ◌++◌, length, Option, Some, None, ltb, sym, ap, ◌∙◌}
use Rattle.pvd_type.specs.Tree.{Tree, leaf, node, Fields, no_fields, field}
use Rattle.pvd_type.specs.Check.{Label, Visit, below, visits, fault_at, label_fault, first_fault, IsType}
use Rattle.pvd_type.specs.declared.checking.TypeFault.{TypeFault}
use Rattle.pvd_type.proofs.Walks.{first_fault-append}
use Rattle.pvd_type.proofs.Counts.{no_next, passed}
use Rattle.pvd_desc.specs.Named.{IsNamed, AreNamed}
use Rattle.pvd_desc.specs.Reading.{here_fault}

no_label : (k : ℕ) (v : Visit) → fault_at k v ≡ None → label_fault v.label ≡ None
no_label k v h = let tests = passed (ltb 32 v.level) (ltb 4095 k) (label_fault v.label) h in rw (tests.0, tests.1) at h

mutual
  named_below : (level k : ℕ) (t : Tree) → first_fault k (below level t) ≡ None → IsNamed t
  named_below level k (leaf l) h = tt {0}
  named_below level k (node kind id fs) h = named_after (level + 1) k [] fs h

  named_after : (level k : ℕ) (before : List (List ℕ)) (fs : Fields) → first_fault k (visits level before fs) ≡ None → AreNamed before fs
  named_after level k before no_fields h = tt {0}
  named_after level k before (field name t fs) h =
      let here : Visit = record { level = level; label = Some (record { name = name; before = before }) } in
      let both = no_next (fault_at k here) (first_fault (k + 1) (below level t ++ visits level (before ++ name ∷ []) fs)) h in
      let parts = no_next (first_fault (k + 1) (below level t)) (first_fault ((k + 1) + length (below level t)) (visits level (before ++ name ∷ []) fs))
      (sym (first_fault-append (k + 1) (below level t) (visits level (before ++ name ∷ []) fs)) ∙ both.1) in
      (no_label k here both.0, named_below level (k + 1) t parts.0, named_after level ((k + 1) + length (below level t)) (before ++ name ∷ []) fs parts.1)

pub type_is_named : (t : Tree) → IsType t → IsNamed t
type_is_named t h = named_below 1 1 t h

-- the fault of a node whose name has none
pub stands : (k level : ℕ) (l : Label) (r : Option TypeFault) → label_fault (Some l) ≡ None → here_fault level k None ≡ r → fault_at k (record { level = level; label = Some l }) ≡ r
stands k level l r named h = ap (here_fault level k) named ∙ h
