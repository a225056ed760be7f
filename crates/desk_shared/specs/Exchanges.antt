-- How the states in hand are exchanged with those that a desk keeps of all records.
use Rattle.std.specs.Prelude.{◌≡◌, ◌==◌, ℕ, false, List, length, set, Option, Some, slice_get}
use Rattle.std.specs.List.{list_any}
use Rattle.rec_kinds.specs.declared.state.RecState.{RecState}
use Rattle.desk_api.specs.Views.{AreStatesOf}

-- one of these in hand was exchanged with the state of a record
pub record IsExchanged (at rec : ℕ) (hand more states after : List RecState) : Type 0 where
  pub mine : RecState
  pub theirs : RecState
  pub mine_is : slice_get hand at ≡ Some mine
  pub theirs_is : slice_get states rec ≡ Some theirs
  pub hand_is : more ≡ set hand at theirs
  pub states_are : after ≡ set states rec mine

-- the port of one of these in hand was exchanged with that of a record, where the record has one
abbrev pub IsPortExchanged : {X : Type 0} → ℕ → ℕ → List X → List X → List (Option X) → List (Option X) → Type 0
IsPortExchanged at rec hand more ports after = (mine theirs : _) → slice_get hand at ≡ Some mine
    → slice_get ports rec ≡ Some (Some theirs) → (more ≡ set hand at theirs) × (after ≡ set ports rec (Some mine))

-- Those in hand were exchanged with the states of these records, and no other state was changed.
pub record AreExchanged (recs : List ℕ) (hand more states after : List RecState) : Type 0 where
  pub many : length more ≡ length hand
  pub long : length after ≡ length states
  pub given : AreStatesOf after recs hand
  pub got : AreStatesOf states recs more
  pub others : (k : ℕ) → list_any (λ r. r == k) recs ≡ false → slice_get after k ≡ slice_get states k

-- The same, whatever is then in hand.
abbrev pub IsGivenBack : List ℕ → List RecState → List RecState → List RecState → Type 0
IsGivenBack recs hand states after = (more : List RecState) × AreExchanged recs hand more states after
