-- What the actions of an entry did, before the entry is added.
use Rattle.std.specs.Prelude.{◌≡◌, ℕ, ◌<◌, Bool, List, [], ◌∷◌, ◌++◌, length, take, set, slice_get, Some}
use Rattle.std.specs.List.{AllByRecursion}
use Rattle.rec_kinds.specs.Configs.{Config}
use Rattle.rec_kinds.specs.Texts.{text_of_datum}
use Rattle.rec_kinds.specs.declared.datum.Action.{Action}
use Rattle.rec_kinds.specs.declared.state.RecState.{RecState}
use Rattle.journal_core.specs.Histories.{written}
use Rattle.journal_core.specs.Legality.{AreProcessed, IsDone}
use Rattle.journal_core.specs.Moments.{Moment}
use Rattle.journal_core.specs.declared.entry.Entry.{Entry}
use Rattle.desk_api.specs.Puts.{footprint_with}
use Rattle.desk_api.specs.declared.history.SiteData.{SiteData}
use Rattle.desk_core.specs.Ports.{Ports, AreDriven, IsDrivenAt}

-- The cells with these states put back, the last first.
abbrev pub restored : List RecState → List (ℕ × RecState) → List RecState
restored cells [] = cells
restored cells (held ∷ before) = set (restored cells before) held.0 held.1

-- A state was written into the cell of a record, and what the cell held is kept behind what was kept before.
pub record IsWritten (was cells : List RecState) (rec : ℕ) (state : RecState)
    (before more : List (ℕ × RecState)) : Type 0 where
  pub held : RecState
  pub there : slice_get was rec ≡ Some held
  pub cells_are : cells ≡ set was rec state
  pub before_are : more ≡ before ++ (rec, held) ∷ []

-- One more action was done, to a record in the state that its cell held: its port was driven once with the new text,
-- and the cell has what is written.
pub record IsNextOf (configs : List Config) (moment : Moment) (action : ℕ × Action) (was cells : List RecState)
    (old new : Ports) (drives more_drives : List Bool)
    (writes more_writes before more : List (ℕ × RecState)) : Type 0 where
  pub drove : Bool
  pub state : RecState
  pub done : IsDone (slice_get configs action.0) (slice_get was action.0) moment action drove (action.0, state)
  pub driven : IsDrivenAt old new action.0 drove (text_of_datum state.datum)
  pub written : IsWritten was cells action.0 state before more
  pub drives_are : more_drives ≡ drives ++ drove ∷ []
  pub writes_are : more_writes ≡ writes ++ (action.0, state) ∷ []

-- These actions were done, in order, to records that were in the states `was`: each drove the port of its record
-- once. The cells have what they write, and what the cells held before can be put back.
pub record AreDone (configs : List Config) (moment : Moment) (was cells : List RecState) (old new : Ports)
    (actions : List (ℕ × Action)) (drives : List Bool) (writes before : List (ℕ × RecState)) : Type 0 where
  pub processed : AreProcessed configs was moment actions drives writes
  pub driven : AreDriven old new drives writes
  pub cells_are : cells ≡ written was writes
  pub kept : restored cells before ≡ was
  pub within : AllByRecursion (λ held. held.0 < length was) before

-- Memory ran out: the first of these actions, of which there may be none, drove the ports of their records once each.
pub record IsBroken (configs : List Config) (was : List RecState) (old new : Ports) (actions : List (ℕ × Action))
    (moment : Moment) : Type 0 where
  pub drives : List Bool
  pub writes : List (ℕ × RecState)
  pub processed : AreProcessed configs was moment (take (length writes) actions) drives writes
  pub driven : AreDriven old new drives writes

-- An entry of these actions was drafted on records that were in the states `was`. It holds these records too, which are
-- to be looked at behind it.
pub record IsDraft (site : SiteData) (was cells : List RecState) (old new : Ports) (actions : List (ℕ × Action))
    (looked : List ℕ) (moment : Moment) (entry : Entry) (before : List (ℕ × RecState)) : Type 0 where
  pub footprint_is : entry.footprint ≡ footprint_with site actions looked
  pub actions_are : entry.actions ≡ actions
  pub moment_is : entry.moment ≡ moment
  pub done : AreDone site.configs moment was cells old new actions entry.drove entry.writes before
