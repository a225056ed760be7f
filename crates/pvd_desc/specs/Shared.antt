-- Types that are shared in memory.
use Rattle.std.specs.Prelude.{ℕ, List, map, Option, Some, None}
use Rattle.std.specs.Arc.{arc_value}
use Rattle.std.specs.declared.sync.Arc.{Arc}
use Rattle.pvd_type.specs.Tree.{Tree}

-- ids, each with the type that it shares
abbrev pub shared : {Z : Type 0} → List (ℕ × Arc Tree Z) → List (ℕ × Tree)
shared es = map (λ e. (e.0, arc_value e.1)) es

-- the first that is there
abbrev pub first_of : {A : Type 0} → Option A → Option A → Option A
first_of None b = b
first_of (Some a) b = Some a
