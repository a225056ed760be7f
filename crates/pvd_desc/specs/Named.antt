-- Types whose names have no fault, wherever they stand.
use Rattle.std.specs.Prelude.{◌≡◌, ℕ, List, [], ◌∷◌, ◌++◌, Some, None}
use Rattle.pvd_type.specs.Tree.{Tree, leaf, node, Fields, no_fields, field}
use Rattle.pvd_type.specs.Check.{label_fault}

abbrev mutual
  pub IsNamed : Tree → Type 0
  IsNamed (leaf l) = Unit {0}
  IsNamed (node k id fs) = AreNamed [] fs

  -- members that stand after these names
  pub AreNamed : List (List ℕ) → Fields → Type 0
  AreNamed before no_fields = Unit {0}
  AreNamed before (field name t fs) =
      (label_fault (Some (record { name = name; before = before })) ≡ None) × IsNamed t × AreNamed (before ++ name ∷ []) fs
