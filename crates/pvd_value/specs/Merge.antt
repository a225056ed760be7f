-- Leaves taken from two values by their numbers.
use Rattle.std.specs.Prelude.{ℕ, ◌+◌, Bool, List, [], ◌∷◌, ◌++◌, length, drop, if◌then◌else◌}
use Rattle.pvd_type.specs.Tree.{Tree, leaf, node, Fields, no_fields, field}
use Rattle.pvd_type.specs.Numbers.{entered, numbered}
use Rattle.pvd_value.specs.Leaves.{row_in}
use Rattle.pvd_value.specs.Data.{Data, members, Row, more}

-- Of a type whose nodes are numbered from n: the leaf of b under each number in the mask, and the leaf of a elsewhere.
abbrev mutual
  pub merged : (ℕ → Bool) → ℕ → Tree → Data → Data → Data
  merged mask n (leaf l) a b = if mask n then b else a
  merged mask n (node k id fs) a b = entered k (members (merged_row mask (n + 1) fs (row_in a) (row_in b))) (if mask n then b else a)

  pub merged_row : (ℕ → Bool) → ℕ → Fields → Row → Row → Row
  merged_row mask n (field name t fs) (more a old) (more b new) = more (merged mask n t a b) (merged_row mask (n + length (numbered t)) fs old new)
  merged_row mask n fs old new = old

-- Of a type whose nodes are numbered from n: the leaves under the numbers in the mask, in order.
abbrev mutual
  pub picked : (ℕ → Bool) → ℕ → Tree → Data → List Data
  picked mask n (leaf l) b = if mask n then b ∷ [] else []
  picked mask n (node k id fs) b = entered k (picked_row mask (n + 1) fs (row_in b)) (if mask n then b ∷ [] else [])

  pub picked_row : (ℕ → Bool) → ℕ → Fields → Row → List Data
  picked_row mask n (field name t fs) (more b new) = picked mask n t b ++ picked_row mask (n + length (numbered t)) fs new
  picked_row mask n fs new = []

-- the first of some values, or another where there is none
abbrev pub first_or : Data → List Data → Data
first_or a [] = a
first_or a (d ∷ ds) = d

-- Of a list of values: what is left once each number in the mask has taken one.
abbrev mutual
  pub left_by : (ℕ → Bool) → ℕ → Tree → List Data → List Data
  left_by mask n (leaf l) ds = if mask n then drop 1 ds else ds
  left_by mask n (node k id fs) ds = entered k (left_by_row mask (n + 1) fs ds) (if mask n then drop 1 ds else ds)

  pub left_by_row : (ℕ → Bool) → ℕ → Fields → List Data → List Data
  left_by_row mask n no_fields ds = ds
  left_by_row mask n (field name t fs) ds = left_by_row mask (n + length (numbered t)) fs (left_by mask n t ds)

-- The value in which each number in the mask has taken the next value of a list.
abbrev mutual
  pub placed : (ℕ → Bool) → ℕ → Tree → Data → List Data → Data
  placed mask n (leaf l) a ds = if mask n then first_or a ds else a
  placed mask n (node k id fs) a ds = entered k (members (placed_row mask (n + 1) fs (row_in a) ds)) (if mask n then first_or a ds else a)

  pub placed_row : (ℕ → Bool) → ℕ → Fields → Row → List Data → Row
  placed_row mask n (field name t fs) (more a old) ds =
      more (placed mask n t a ds) (placed_row mask (n + length (numbered t)) fs old (left_by mask n t ds))
  placed_row mask n fs old ds = old
