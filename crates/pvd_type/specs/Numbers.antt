-- The numbers of a type's nodes (pvAccess Protocol Specification, "Field numbering").
use Rattle.std.specs.Prelude.{◌≡◌, ℕ, ◌+◌, suc, Bool, true, false, ◌==◌, List, [], ◌∷◌, ◌++◌, length, map, Option, Some, None, option_map, if◌then◌else◌}
use Rattle.std.specs.List.{slice_split}
use Rattle.std.specs.Str.{bytes_eq}
use Rattle.std.specs.Ordering.{nat_cmp}
use Rattle.std.specs.FinSet.{FinSet, from_list}
use Rattle.pvd_type.specs.Tree.{Tree, leaf, node, Kind, struct, union, struct_list, union_list, Fields, no_fields, field}

-- only structures are entered
abbrev pub entered : {A : Type 0} → Kind → A → A → A
entered struct x y = x
entered union x y = y
entered struct_list x y = y
entered union_list x y = y

-- The nodes that have numbers, in the order of their numbers: depth first from 0, and only structures are entered.
abbrev mutual
  pub numbered : Tree → List Tree
  numbered (leaf l) = leaf l ∷ []
  numbered (node k id fs) = node k id fs ∷ entered k (numbered_fields fs) []

  pub numbered_fields : Fields → List Tree
  numbered_fields no_fields = []
  numbered_fields (field name t fs) = numbered t ++ numbered_fields fs

-- how many numbers each of these nodes takes, itself included
abbrev pub sizes_of : List Tree → List ℕ
sizes_of ts = map (λ t. length (numbered t)) ts

-- the sizes of these nodes stand at the front of a list
pub record IsMeasured (sizes : List ℕ) (ts : List Tree) : Type 0 where
  pub rest : List ℕ
  pub front : sizes ≡ sizes_of ts ++ rest

-- a leaf is a node that is no structure
abbrev pub is_leaf : Tree → Bool
is_leaf (leaf l) = true
is_leaf (node k id fs) = entered k false true

-- the numbers of the leaves among nodes that are numbered from n
abbrev pub leaves_from : ℕ → List Tree → List ℕ
leaves_from n [] = []
leaves_from n (t ∷ ts) = if is_leaf t then n ∷ leaves_from (n + 1) ts else leaves_from (n + 1) ts

-- the numbers of the leaves of a type
abbrev pub leaves : Tree → FinSet nat_cmp
leaves t = from_list (leaves_from 0 (numbered t))

-- The number of the node that a path of names leads to, counted from the node's own 0.
abbrev mutual
  pub number_of : List (List ℕ) → Tree → Option ℕ
  number_of [] t = Some 0
  number_of (name ∷ path) (leaf l) = None
  number_of (name ∷ path) (node k id fs) = entered k (number_among 1 name path fs) None

  -- the members are numbered from n
  pub number_among : ℕ → List ℕ → List (List ℕ) → Fields → Option ℕ
  number_among n name path no_fields = None
  number_among n name path (field other t fs) =
      if bytes_eq name other then option_map (λ k. n + k) (number_of path t) else number_among (n + length (numbered t)) name path fs

-- the names of a path, which dots divide
abbrev pub path_of : List ℕ → List (List ℕ)
path_of text = slice_split (λ b. b == 46) text

-- the names that follow a first one, where there is more of the path
abbrev pub path_after : Option (List ℕ) → List (List ℕ)
path_after None = []
path_after (Some text) = path_of text

-- the number of the node with this path, of which the empty one is the root's
abbrev pub number_at : List ℕ → Tree → Option ℕ
number_at [] t = Some 0
number_at (c ∷ cs) t = number_of (path_of (c ∷ cs)) t

-- how many nodes there are, entered by the numbers or not
abbrev mutual
  pub nodes : Tree → ℕ
  nodes (leaf l) = 1
  nodes (node k id fs) = suc (nodes_in fs)

  pub nodes_in : Fields → ℕ
  nodes_in no_fields = 0
  nodes_in (field name t fs) = nodes t + nodes_in fs
