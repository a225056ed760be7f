-- When a tree of shapes is a type.
use Rattle.std.specs.Prelude.{◌≡◌, ℕ, ◌+◌, Bool, List, [], ◌∷◌, ◌++◌, length, Option, Some, None, if◌then◌else◌, nat_lt, ◌==◌, ◌||◌, false, Result, Ok, Err}
use Rattle.std.specs.Str.{bytes_eq}
use Rattle.pvd_type.specs.Tree.{Tree, leaf, node, Fields, no_fields, field}
use Rattle.pvd_type.specs.declared.checking.TypeFault.{TypeFault}
use Rattle.pvd_type.specs.declared.checking.TypeFault.TheVariants.{TooDeep, TooMany, EmptyName, SameName, NoMemory}

-- A node where the check stands: its level, its name, and the names that stand before it in the same node. The root has no name.
pub record Label : Type 0 where
  pub name : List ℕ
  pub before : List (List ℕ)

pub record Visit : Type 0 where
  pub level : ℕ
  pub label : Option Label

-- All nodes, depth first, entered or not by the numbers. The root is on level 1.
abbrev mutual
  pub below : ℕ → Tree → List Visit
  below level (leaf l) = []
  below level (node k id fs) = visits (level + 1) [] fs

  pub visits : ℕ → List (List ℕ) → Fields → List Visit
  visits level before no_fields = []
  visits level before (field name t fs) =
      record { level = level; label = Some (record { name = name; before = before }) } ∷ (below level t ++ visits level (before ++ name ∷ []) fs)

abbrev pub all_visits : Tree → List Visit
all_visits t = record { level = 1; label = None } ∷ below 1 t

abbrev pub contains : List ℕ → List (List ℕ) → Bool
contains name [] = false
contains name (x ∷ xs) = bytes_eq name x || contains name xs

abbrev pub label_fault : Option Label → Option TypeFault
label_fault None = None
label_fault (Some l) =
    if length l.name == 0 then Some EmptyName else if contains l.name l.before then Some SameName else None

-- the fault at one node, which has k nodes before it
abbrev pub fault_at : ℕ → Visit → Option TypeFault
fault_at k v = if nat_lt 32 v.level then Some TooDeep else if nat_lt 4095 k then Some TooMany else label_fault v.label

abbrev pub or_next : Option TypeFault → Option TypeFault → Option TypeFault
or_next None r = r
or_next (Some f) r = Some f

-- the first fault in depth-first order
abbrev pub first_fault : ℕ → List Visit → Option TypeFault
first_fault k [] = None
first_fault k (v ∷ vs) = or_next (fault_at k v) (first_fault (k + 1) vs)

abbrev pub type_fault : Tree → Option TypeFault
type_fault t = first_fault 0 (all_visits t)

abbrev pub IsType : Tree → Type 0
IsType t = type_fault t ≡ None

-- what a check that answers this fault says of the tree: want of memory is answered only where there is no fault
abbrev pub IsFault : Tree → TypeFault → Type 0
IsFault t NoMemory = IsType t
IsFault t fault = type_fault t ≡ Some fault

-- What the check of these nodes answers, after k others: their first fault, or how many nodes there are now.
abbrev pub Checks : ℕ → List Visit → Result ℕ TypeFault → Type 0
Checks k vs (Ok n) = (first_fault k vs ≡ None) × (n ≡ k + length vs)
Checks k vs (Err f) = first_fault k vs ≡ Some f
