-- A value as a function of the numbers of its leaves: nothing is said of how it is built, nor that it fits a type.
use Rattle.std.specs.Prelude.{ℕ, not, Option, None, if◌then◌else◌}
use Rattle.std.specs.Ordering.{nat_cmp}
use Rattle.std.specs.FinSet.{FinSet, contains, retain}
use Rattle.pvd_type.specs.Tree.{Tree}
use Rattle.pvd_value.specs.Data.{Data}
use Rattle.pvd_value.specs.Leaves.{leaf_at}
use Rattle.pvd_value.specs.Same.{same_slot}

-- the leaf under each number, and None where there is none or none is told
abbrev pub LeafValues : Type 0
LeafValues = ℕ → Option Data

abbrev pub nothing : LeafValues
nothing = λ k. None

abbrev pub leaf_values : Tree → Data → LeafValues
leaf_values t v = λ k. leaf_at k t v

-- the new leaves under the numbers of the mask, and the old ones elsewhere
abbrev pub over : FinSet nat_cmp → LeafValues → LeafValues → LeafValues
over mask old new = λ k. if contains mask k then new k else old k

-- the numbers of the mask under which two differ
abbrev pub differing_in : FinSet nat_cmp → LeafValues → LeafValues → FinSet nat_cmp
differing_in mask old new = retain mask (λ k. not (same_slot (old k) (new k)))
