-- Names of members that were kept to be found again.
use Rattle.std.specs.Prelude.{◌≡◌, ℕ, List}
use Rattle.std.specs.Option.{IfSome}
use Rattle.std.specs.Ordering.{nat_cmp}
use Rattle.std.specs.Cmp.Lexicographic.{slice_cmp}
use Rattle.std.specs.BTreeSet.{contains_by}
use Rattle.pvd_type.specs.Check.{contains}
use Rattle.pvd_type.specs.declared.siblings.Siblings.{Siblings}

-- the names that are kept, where any are, are those of the list
abbrev pub knows : Siblings → List (List ℕ) → Type 0
knows s before = IfSome s.names (λ kept. (name : List ℕ) → contains_by (λ k. slice_cmp nat_cmp name k.now) kept ≡ contains name before)
