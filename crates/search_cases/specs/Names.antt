-- The names that a client searches for.
use Rattle.std.specs.Prelude.{◌≤◌, ℕ, List, [], length, get_or}
use Rattle.pva_search.specs.Finding.{longest}

-- at most 64, of at most 200 bytes each
pub record AreNames (names : List (List ℕ)) : Type 0 where
  pub few : length names ≤ 64
  pub short : (i : ℕ) → length (get_or names i []) ≤ longest
