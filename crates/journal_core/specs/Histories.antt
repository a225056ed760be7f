-- A history: the states that the records open with, and the entries of the commits in order.
use Rattle.std.specs.Prelude.{◌≡◌, ℕ, ◌<◌, List, length, take, set}
use Rattle.std.specs.List.{fold, sum_by, All}
use Rattle.rec_kinds.specs.declared.state.RecState.{RecState}
use Rattle.journal_core.specs.declared.entry.Entry.{Entry}
use Rattle.journal_core.specs.Weights.{weight}

-- A history as contracts see it, with the number of entries for which there is room.
pub record Journal : Type 0 where
  pub opening : List RecState
  pub entries : List Entry
  pub room : ℕ

-- the states after these writes, each of a record by its number
abbrev pub written : List RecState → List (ℕ × RecState) → List RecState
written states writes = fold (λ s w. set s w.0 w.1) states writes

-- the states after these entries
abbrev pub replayed : List RecState → List Entry → List RecState
replayed states entries = fold (λ s entry. written s entry.writes) states entries

-- The states of all records at a place: the opening, with the writes of so many entries.
abbrev pub state_at : List RecState → List Entry → ℕ → List RecState
state_at opening entries n = replayed opening (take n entries)

-- what entries weigh together
abbrev pub kept : List Entry → ℕ
kept entries = sum_by weight entries

-- The writes are of so many records.
abbrev pub WritesWithin : ℕ → List (ℕ × RecState) → Type 0
WritesWithin count writes = All (λ w. w.0 < count) writes

abbrev pub EntriesWithin : ℕ → List Entry → Type 0
EntriesWithin count entries = All (λ entry. WritesWithin count entry.writes) entries

-- The sum of the weights is kept beside the entries, and they write records of the opening.
pub record IsKept (opening : List RecState) (entries : List Entry) (sum : ℕ) : Type 0 where
  pub sum_is : sum ≡ kept entries
  pub within : EntriesWithin (length opening) entries
