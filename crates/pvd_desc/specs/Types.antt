-- The types that are known under ids.
use Rattle.std.specs.Prelude.{ℕ, List, [], ◌∷◌, ◌++◌}
use Rattle.std.specs.Ordering.{nat_cmp}
use Rattle.std.specs.FinMap.{FinMap, insert, entries, from_entries}
use Rattle.pvd_type.specs.Tree.{Tree}

abbrev pub Types : Type 0
Types = FinMap nat_cmp Tree

-- types over others, which they hide
unfoldable pub laid : Types → Types → Types
laid base defined = from_entries (entries defined ++ entries base)

-- the type under each of these ids
abbrev pub define_all : List ℕ → Tree → Types → Types
define_all [] t types = types
define_all (id ∷ ids) t types = define_all ids t (insert types id t)
