-- Which leaves of a channel's type a request selects (pvAccess Protocol Specification, "pvRequest"). A request spells
-- names of fields as the members of a structure, nested as the fields are.
use Rattle.std.specs.Prelude.{◌≡◌, ℕ, ◌+◌, Bool, true, false, not, ◌&&◌, ◌||◌, List, [], ◌∷◌, ◌++◌, length, codes, Option, Some, None, if◌then◌else◌}
use Rattle.std.specs.Ordering.{nat_cmp}
use Rattle.std.specs.FinSet.{FinSet, contains}
use Rattle.std.specs.Str.{bytes_eq}
use Rattle.pvd_type.specs.Tree.{Tree, leaf, node, Fields, no_fields, field}
use Rattle.pvd_type.specs.Numbers.{entered, leaves, numbered}

-- the members of a structure; another type has none
abbrev pub fields_in : Tree → Fields
fields_in (leaf l) = no_fields
fields_in (node k id fs) = entered k fs no_fields

-- whether a tree is there and passes
abbrev pub some_tree : (Tree → Bool) → Option Tree → Bool
some_tree test None = false
some_tree test (Some t) = test t

-- the name of options, which is never a field's
abbrev pub is_options : List ℕ → Bool
is_options name = bytes_eq name (codes "_options")

-- what the members of a request say of the field of this name, where they name it
abbrev pub said_of : List ℕ → Fields → Option Tree
said_of name no_fields = None
said_of name (field other t fs) =
    if bytes_eq other name && not (is_options other) then Some t else said_of name fs

-- whether members name a field
abbrev pub name_fields : Fields → Bool
name_fields no_fields = false
name_fields (field name t fs) = not (is_options name) || name_fields fs

-- Whether the member of a request that names a field selects what the path leads to, counted from that field: everything
-- below the field, where no member of its own names a field; else only what such members select.
abbrev pub selects : List (List ℕ) → Tree → Bool
selects [] t = not (name_fields (fields_in t))
selects (name ∷ path) t = not (name_fields (fields_in t)) || some_tree (selects path) (said_of name (fields_in t))

-- whether a member of these selects what the path leads to
abbrev pub one_selects : Fields → List (List ℕ) → Bool
one_selects fs [] = false
one_selects fs (name ∷ path) = some_tree (selects path) (said_of name fs)

abbrev pub are_none : Fields → Bool
are_none no_fields = true
are_none (field name t fs) = false

abbrev pub is_empty_structure : Tree → Bool
is_empty_structure (leaf l) = false
is_empty_structure (node k id fs) = entered k (are_none fs) false

-- Whether a request with this root selects what the path leads to. A root that is missing or an empty structure selects
-- all; of another its members do.
abbrev pub root_selects : Option Tree → List (List ℕ) → Bool
root_selects None path = true
root_selects (Some t) path = is_empty_structure t || one_selects (fields_in t) path

-- every path passes
abbrev pub every : List (List ℕ) → Bool
every path = true

-- Of a type whose nodes are numbered from n: the leaves whose path, counted from the type itself, passes.
abbrev mutual
  pub leaves_where : (List (List ℕ) → Bool) → ℕ → Tree → List ℕ
  leaves_where passes n (leaf l) = if passes [] then n ∷ [] else []
  leaves_where passes n (node k id fs) =
      entered k (leaves_among passes (n + 1) fs) (if passes [] then n ∷ [] else [])

  pub leaves_among : (List (List ℕ) → Bool) → ℕ → Fields → List ℕ
  leaves_among passes n no_fields = []
  leaves_among passes n (field name t fs) =
      leaves_where (λ path. passes (name ∷ path)) n t ++ leaves_among passes (n + length (numbered t)) fs

-- the leaves of a type that a root selects, in the order of their numbers
abbrev pub selected : Tree → Option Tree → List ℕ
selected t root = leaves_where (root_selects root) 0 t

-- the set holds leaves of the type
abbrev pub HoldsLeaves : Tree → FinSet nat_cmp → Type 0
HoldsLeaves t mask = (n : ℕ) → contains mask n ≡ true → contains (leaves t) n ≡ true
