-- The looks of a get that isn't atomic, one after another.
use Rattle.std.specs.Prelude.{◌≡◌, ◌<◌, ℕ, List, [], ◌∷◌, length, map, set, take, Result, Ok, Err}
use Rattle.std.specs.List.{AllByRecursion}
use Rattle.pvd_type.specs.declared.memory.NoMemory.{NoMemory}
use Rattle.rec_kinds.specs.declared.state.RecState.{RecState}
use Rattle.desk_api.specs.Calls.{AreLooks, laid_by}
use Rattle.desk_api.specs.declared.channel.Channel.{Channel}
use Rattle.desk_api.specs.declared.mark.Mark.{Mark}
use Rattle.desk_api.specs.declared.mark.Mark.TheVariants.{Read}
use Rattle.desk_core.specs.Effects.{restored}

-- One record was looked at, and the state that was found is kept at its place.
pub record IsLook (channel : Channel) (rec : ℕ) (states after : List RecState) (marks : List Mark) : Type 0 where
  pub at : ℕ
  pub state : RecState
  pub marks_are : marks ≡ Read at channel (rec ∷ []) (state ∷ []) ∷ []
  pub states_are : after ≡ set states rec state

abbrev pub AreLook : {A : Type 0} → Channel → ℕ → List RecState → List RecState → Result A NoMemory → List Mark → Type 0
AreLook channel rec states after (Ok done) marks = IsLook channel rec states after marks
AreLook channel rec states after (Err e) marks = marks ≡ []

-- each of these records by itself
abbrev pub one_by_one : List ℕ → List (List ℕ)
one_by_one recs = map (λ rec. rec ∷ []) recs

-- These records were looked at, and what was found is laid over the states.
pub record AreAll (channel : Channel) (recs : List ℕ) (states after : List RecState) (marks : List Mark) : Type 0 where
  pub looks : AreLooks channel (one_by_one recs) marks
  pub states_are : after ≡ laid_by states marks

abbrev pub AreLookedAt : {A : Type 0} → Channel → List ℕ → List RecState → List RecState → Result A NoMemory
    → List Mark → Type 0
AreLookedAt channel recs states after (Ok done) marks = AreAll channel recs states after marks
AreLookedAt channel recs states after (Err e) marks = AreLooks channel (take (length marks) (one_by_one recs)) marks

-- What was written may be put back, which gives these states.
pub record IsRestorable (back states : List RecState) (before : List (ℕ × RecState)) : Type 0 where
  pub back_is : restored states before ≡ back
  pub within : AllByRecursion (λ held. held.0 < length states) before
