-- Tables whose rows have names.
use Rattle.std.specs.Prelude.{ℕ, List, [], ◌∷◌, Option, None, Some, if◌then◌else◌}
use Rattle.std.specs.Borrow.{Bor}
use Rattle.std.specs.Str.{bytes_eq}

-- what the first row of this name has
abbrev pub first_named : {A : Type 0} → List ℕ → List (List ℕ × A) → Option A
first_named name [] = None
first_named name (row ∷ rows) = if bytes_eq row.0 name then Some row.1 else first_named name rows

-- a row as it stands in the program
abbrev pub named_row : {A : Type 0} → Bor (List ℕ) × A → List ℕ × A
named_row row = (row.0.now, row.1)
