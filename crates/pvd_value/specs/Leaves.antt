-- The leaves of a value under their numbers.
use Rattle.std.specs.Prelude.{ℕ, ◌+◌, Bool, false, ◌||◌, List, [], ◌∷◌, ◌++◌, length, Option, Some, None, slice_get, if◌then◌else◌}
use Rattle.std.specs.Ordering.{nat_cmp}
use Rattle.std.specs.FinSet.{FinSet, contains, from_list}
use Rattle.pvd_type.specs.Tree.{Tree, leaf, node, Fields, no_fields, field}
use Rattle.pvd_type.specs.Numbers.{entered, numbered}
use Rattle.pvd_type.specs.Sets.{IsFirstFrom}
use Rattle.pvd_value.specs.declared.leaves.ValueBits.{ValueBits}
use Rattle.pvd_value.specs.declared.leaves.ValueBits.TheVariants.{Outside, NoMemory}
use Rattle.pvd_value.specs.Data.{Data, members, Row, end, more}

-- the values of a structure's members
abbrev pub row_in : Data → Row
row_in (members vs) = vs
row_in _ = end

-- What stands under each number of a type: the value of a leaf, and none at a structure.
abbrev mutual
  pub slots : Tree → Data → List (Option Data)
  slots (leaf l) v = Some v ∷ []
  slots (node k id fs) v = entered k (None ∷ row_slots fs (row_in v)) (Some v ∷ [])

  pub row_slots : Fields → Row → List (Option Data)
  row_slots (field name t fs) (more v vs) = slots t v ++ row_slots fs vs
  row_slots fs vs = []

abbrev pub known : Option (Option Data) → Option Data
known None = None
known (Some slot) = slot

-- the leaf under a number, where the number is a leaf's
abbrev pub leaf_at : ℕ → Tree → Data → Option Data
leaf_at n t v = known (slice_get (slots t v) n)

-- Of a type whose nodes are numbered from n: the leaves that are marked themselves or stand below a marked structure.
abbrev mutual
  pub leaves_under : (ℕ → Bool) → Bool → ℕ → Tree → List ℕ
  leaves_under marked inside n (leaf l) = if inside || marked n then n ∷ [] else []
  leaves_under marked inside n (node k id fs) = entered k (leaves_among marked (inside || marked n) (n + 1) fs) (if inside || marked n then n ∷ [] else [])

  pub leaves_among : (ℕ → Bool) → Bool → ℕ → Fields → List ℕ
  leaves_among marked inside n no_fields = []
  leaves_among marked inside n (field name t fs) = leaves_under marked inside n t ++ leaves_among marked inside (n + length (numbered t)) fs

-- a structure's bit stands for all leaves below it
abbrev pub marked_leaves : Tree → FinSet nat_cmp → FinSet nat_cmp
marked_leaves t bits = from_list (leaves_under (contains bits) false 0 t)

-- what an answer without leaves says: the least bit past the type's numbers, or that there was no memory
abbrev pub IsOutside : Tree → FinSet nat_cmp → ValueBits → Type 0
IsOutside t bits (Outside n) = IsFirstFrom bits (length (numbered t)) (Some n)
IsOutside t bits NoMemory = IsFirstFrom bits (length (numbered t)) None
