-- Which histories are legal.
use Rattle.std.specs.Prelude.{◌≡◌, ◌==◌, ◌||◌, ℕ, Bool, true, List, [], ◌∷◌, set, Option, Some, is_some, slice_get, ⊤, IsTrue}
use Rattle.std.specs.List.{list_all, list_any}
use Rattle.rec_kinds.specs.Processing.{processed}
use Rattle.rec_kinds.specs.Validity.{IsValid, MayBeDone}
use Rattle.rec_kinds.specs.Configs.{Config}
use Rattle.rec_kinds.specs.declared.datum.Action.{Action}
use Rattle.rec_kinds.specs.declared.state.RecState.{RecState}
use Rattle.histories.specs.History.{IsLegalAfter}
use Rattle.journal_core.specs.Moments.{Moment}
use Rattle.journal_core.specs.declared.entry.Entry.{Entry}
use Rattle.journal_core.specs.Histories.{replayed}

-- Each record is in a state that is valid for it.
abbrev pub AreValid : List Config → List RecState → Type 0
AreValid [] [] = ⊤
AreValid (config ∷ configs) (state ∷ states) = IsValid config state × AreValid configs states
AreValid _ _ = ⊥

-- The action may be done to a record of this configuration, and the write is what processing makes of its state. Only of
-- a record with a port may the entry tell that it wasn't driven.
pub record IsProcessed (config : Config) (old : RecState) (moment : Moment) (action : ℕ × Action) (drove : Bool)
    (write : ℕ × RecState) : Type 0 where
  pub may : MayBeDone config action.1
  pub driven : (drove || is_some config.port) ≡ true
  pub write_is : write ≡ (action.0, processed config old action.1 moment drove)

-- the same of the record with this number, if there is one
abbrev pub IsDone : Option Config → Option RecState → Moment → ℕ × Action → Bool → ℕ × RecState → Type 0
IsDone (Some config) (Some old) moment action drove write = IsProcessed config old moment action drove write
IsDone _ _ moment action drove write = ⊥

-- One write and one `drove` for each action, in order, each from the states that the writes before it left.
abbrev pub AreProcessed : List Config → List RecState → Moment → List (ℕ × Action) → List Bool
    → List (ℕ × RecState) → Type 0
AreProcessed configs states moment [] [] [] = ⊤
AreProcessed configs states moment (action ∷ actions) (drove ∷ drives) (write ∷ writes) =
    IsDone (slice_get configs action.0) (slice_get states action.0) moment action drove write
    × AreProcessed configs (set states write.0 write.1) moment actions drives writes
AreProcessed _ _ _ _ _ _ = ⊥

-- An entry is legal after these states: they are valid, it processes them, and it writes records of its footprint
-- alone.
pub record IsLegalEntry (configs : List Config) (states : List RecState) (entry : Entry) : Type 0 where
  pub valid : AreValid configs states
  pub processed : AreProcessed configs states entry.moment entry.actions entry.drove entry.writes
  pub inside : IsTrue (list_all (λ write. list_any (λ rec. rec == write.0) entry.footprint) entry.writes)

-- an entry may follow others where it is legal after the states that they leave
abbrev pub MayFollow : List Config → List RecState → List Entry → Entry → Type 0
MayFollow configs opening past entry = IsLegalEntry configs (replayed opening past) entry

-- A history is legal where each entry is legal after the states at its own place.
abbrev pub IsLegal : List Config → List RecState → List Entry → Type 0
IsLegal configs opening entries = IsLegalAfter (MayFollow configs opening) [] entries
