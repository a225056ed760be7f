-- The law of two cells: each entry adds 1 to both. It serves the tests.
use Rattle.std.specs.Prelude.{◌≡◌, ℕ, zero, suc, List, [], ◌∷◌, ◌++◌, length, replicate}
use Rattle.std.proofs.Common.{suc-le-suc, zero-le}
use Rattle.hall_core.specs.Meanings.{Meaning, adds_entry, Among}

-- what a cell shows after the entries
abbrev pub count_in : List (Unit {0}) → ℕ → ℕ
count_in entries zero = length entries
count_in entries (suc zero) = length entries
count_in entries (suc (suc cell)) = 0

pub untouched : (es : List (Unit {0})) (e : Unit {0}) (c : ℕ) → ¬ (Among c (0 ∷ 1 ∷ []))
    → count_in (es ++ e ∷ []) c ≡ count_in es c
untouched es e zero out = absurd (out (0, suc-le-suc zero-le, λ i. 0))
untouched es e (suc zero) out = absurd (out (1, suc-le-suc (suc-le-suc zero-le), λ i. 1))
untouched es e (suc (suc c)) out = λ i. 0

-- a cell is its number, the hub the number of entries, and each mark is of an entry
abbrev pub two_cells : Meaning ℕ ℕ (Unit {0}) (Unit {0}) (Unit {0}) (Unit {0}) ℕ
two_cells = record {
  some_base = tt;
  base_of = λ hub. tt;
  entries = λ hub. replicate hub tt;
  shows = λ cell. cell;
  shown_after = λ base entries cell. count_in entries cell;
  footprint = λ entry. 0 ∷ 1 ∷ [];
  may_follow = λ base entries entry. Unit {0};
  adds = λ mark. adds_entry;
  fits = λ mark entry. Unit {0};
  is_true = λ mark story seat before. Unit {0};
  keeps = λ hub story seat log. Unit {0};
  outside = λ base entries entry may cell out. untouched entries entry cell out;
  stays = λ mark story longer seat before begins true. tt;
}
