-- What one entry of a put came to.
use Rattle.std.specs.Prelude.{◌≡◌, ◌<◌, ⊤, ℕ, List, [], ◌∷◌, ◌++◌, length, take, Some, slice_get, Result, Ok, Err}
use Rattle.pvd_value.specs.Data.{Data}
use Rattle.pvd_value.specs.View.{view}
use Rattle.pvd_value.specs.declared.value.PvValue.{PvValue}
use Rattle.rec_kinds.specs.declared.datum.Action.{Action}
use Rattle.rec_kinds.specs.declared.state.RecState.{RecState}
use Rattle.journal_core.specs.Moments.{Moment}
use Rattle.journal_core.specs.declared.entry.Entry.{Entry}
use Rattle.desk_api.specs.Calls.{first_place}
use Rattle.desk_api.specs.Puts.{footprint_with}
use Rattle.desk_api.specs.Sites.{footprint_of}
use Rattle.desk_api.specs.Views.{laid, value_of}
use Rattle.desk_api.specs.declared.channel.Channel.{Channel}
use Rattle.desk_api.specs.declared.history.SiteData.{SiteData}
use Rattle.desk_api.specs.declared.mark.Mark.{Mark}
use Rattle.desk_api.specs.declared.mark.Mark.TheVariants.{Entered, Overweight}
use Rattle.desk_api.specs.declared.put.Done.{Done}
use Rattle.desk_api.specs.declared.put.PutAnswer.{PutAnswer}
use Rattle.desk_api.specs.declared.put.PutAnswer.TheVariants as answers
use Rattle.desk_core.specs.Begun.{IsHeld}

-- This entry was added, unless it would have been too heavy or memory ran out. These records were then found so.
abbrev pub AreEntered : Entry → List ℕ → List RecState → ℕ → Result ℕ PutAnswer → List Mark → Type 0
AreEntered entry looked found done (Ok at) marks = marks ≡ Entered at entry looked found ∷ []
AreEntered entry looked found done (Err (answers.Refused refusal)) marks = ⊥
AreEntered entry looked found done (Err (answers.JournalFull kept weight limit done_)) marks =
    ((at : ℕ) × (marks ≡ Overweight at entry.footprint entry.actions kept weight limit ∷ [])) × (done_ ≡ done)
AreEntered entry looked found done (Err (answers.NoMemory done_)) marks = (marks ≡ []) × (done_ ≡ done)

-- It was added at this place, with what an entry of these actions holds, and these records were then found so.
pub record IsEntered (site : SiteData) (moment : Moment) (actions : List (ℕ × Action)) (looked : List ℕ)
    (found : List RecState) (at : ℕ) (marks : List Mark) : Type 0 where
  pub entry : Entry
  pub held : IsHeld site moment actions looked entry
  pub marks_are : marks ≡ Entered at entry looked found ∷ []

-- It would have been too heavy.
pub record IsTooHeavy (site : SiteData) (actions : List (ℕ × Action)) (looked : List ℕ) (kept weight limit : ℕ)
    (marks : List Mark) : Type 0 where
  pub at : ℕ
  pub marks_are : marks ≡ Overweight at (footprint_with site actions looked) actions kept weight limit ∷ []

-- What an entry of these actions came to, behind so many others of its put.
abbrev pub AreEntry : SiteData → Moment → List (ℕ × Action) → List ℕ → List RecState → ℕ → Result ℕ PutAnswer
    → List Mark → Type 0
AreEntry site moment actions looked found done (Ok at) marks = IsEntered site moment actions looked found at marks
AreEntry site moment actions looked found done (Err (answers.Refused refusal)) marks = ⊥
AreEntry site moment actions looked found done (Err (answers.JournalFull kept weight limit done_)) marks =
    IsTooHeavy site actions looked kept weight limit marks × (done_ ≡ done)
AreEntry site moment actions looked found done (Err (answers.NoMemory done_)) marks = (marks ≡ []) × (done_ ≡ done)

-- ---- the entries of a put, one after another

-- each of these entries was added, by its actions
abbrev pub AreAllHeld : SiteData → Moment → List (List (ℕ × Action)) → List Mark → Type 0
AreAllHeld site moment [] [] = ⊤
AreAllHeld site moment (actions ∷ entries) (mark ∷ marks) =
    ((at : ℕ) × IsEntered site moment actions [] [] at (mark ∷ [])) × AreAllHeld site moment entries marks
AreAllHeld site moment entries marks = ⊥

pub record AreAllPut (site : SiteData) (moment : Moment) (entries : List (List (ℕ × Action))) (done : Done)
    (marks : List Mark) : Type 0 where
  pub held : AreAllHeld site moment entries marks
  pub first_is : 0 < length entries → first_place marks ≡ Some done.first
  pub count_is : done.count ≡ length marks

-- The first entries were added, so many, and the next one would have been too heavy.
pub record AreFullAfter (site : SiteData) (moment : Moment) (entries : List (List (ℕ × Action)))
    (kept weight limit done : ℕ) (marks : List Mark) : Type 0 where
  pub before : List Mark
  pub held : AreAllHeld site moment (take done entries) before
  pub done_is : done ≡ length before
  pub actions : List (ℕ × Action)
  pub next : slice_get entries done ≡ Some actions
  pub heavy : List Mark
  pub heavy_is : IsTooHeavy site actions [] kept weight limit heavy
  pub marks_are : marks ≡ before ++ heavy

-- The first entries were added, so many, and then memory ran out.
pub record AreStoppedAfter (site : SiteData) (moment : Moment) (entries : List (List (ℕ × Action))) (done : ℕ)
    (marks : List Mark) : Type 0 where
  pub held : AreAllHeld site moment (take done entries) marks
  pub done_is : done ≡ length marks

abbrev pub ArePutInTurn : SiteData → Moment → List (List (ℕ × Action)) → Result Done PutAnswer → List Mark → Type 0
ArePutInTurn site moment entries (Ok done) marks = AreAllPut site moment entries done marks
ArePutInTurn site moment entries (Err (answers.Refused refusal)) marks = ⊥
ArePutInTurn site moment entries (Err (answers.JournalFull kept weight limit done)) marks =
    AreFullAfter site moment entries kept weight limit done marks
ArePutInTurn site moment entries (Err (answers.NoMemory done)) marks = AreStoppedAfter site moment entries done marks

-- ---- a put-get that is one entry

pub record IsPutGot (site : SiteData) (channel : Channel) (moment : Moment) (actions : List (ℕ × Action)) (done : Done)
    (value : Data) (marks : List Mark) : Type 0 where
  pub found : List RecState
  pub entered : IsEntered site moment actions (footprint_of site channel) found done.first marks
  pub count_is : done.count ≡ 1
  pub value_is : value ≡ value_of site channel (laid site.opening (footprint_of site channel) found)

abbrev pub ArePutGot : SiteData → Channel → Moment → List (ℕ × Action) → Result (Done × PvValue) PutAnswer → List Mark
    → Type 0
ArePutGot site channel moment actions (Ok (done, value)) marks =
    IsPutGot site channel moment actions done (view value) marks
ArePutGot site channel moment actions (Err (answers.Refused refusal)) marks = ⊥
ArePutGot site channel moment actions (Err (answers.JournalFull kept weight limit done)) marks =
    IsTooHeavy site actions (footprint_of site channel) kept weight limit marks × (done ≡ 0)
ArePutGot site channel moment actions (Err (answers.NoMemory done)) marks = (marks ≡ []) × (done ≡ 0)
