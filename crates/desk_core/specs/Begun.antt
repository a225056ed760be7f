-- What the entries of a put came to, on a desk that nobody shares.
use Rattle.std.specs.Prelude.{◌≡◌, ℕ, ◌+◌, ◌<◌, ◌≤◌, ⊤, List, [], ◌∷◌, ◌++◌, length, map, take, Some, slice_get}
use Rattle.std.specs.Prelude.{Result, Ok, Err}
use Rattle.rec_kinds.specs.declared.datum.Action.{Action}
use Rattle.rec_kinds.specs.declared.state.RecState.{RecState}
use Rattle.journal_core.specs.Histories.{Journal, kept}
use Rattle.journal_core.specs.Moments.{Moment}
use Rattle.journal_core.specs.Weights.{weight}
use Rattle.journal_core.specs.declared.entry.Entry.{Entry}
use Rattle.desk_api.specs.Calls.{Adds, EndsAtItsMarks, EndsAtLastMark, now, with_mark}
use Rattle.desk_api.specs.History.{entries, state_at}
use Rattle.desk_api.specs.Puts.{footprint_with}
use Rattle.desk_api.specs.declared.history.SiteData.{SiteData}
use Rattle.desk_api.specs.declared.mark.Mark.{Mark}
use Rattle.desk_api.specs.declared.mark.Mark.TheVariants.{Entered, Overweight}
use Rattle.desk_api.specs.declared.mark.Seat.{Seat}
use Rattle.desk_api.specs.declared.put.Done.{Done}
use Rattle.desk_api.specs.declared.put.PutAnswer.{PutAnswer}
use Rattle.desk_api.specs.declared.put.PutAnswer.TheVariants as answers
use Rattle.desk_core.specs.Effects.{IsBroken}
use Rattle.desk_core.specs.Ports.{Ports, AreDriven, AreDrivenInTurn}

-- ---- an entry and the history that it is added to

pub record IsPushed (entry : Entry) (looked : List ℕ) (found : List RecState) (limit : ℕ) (old new : Journal)
    (s t : Seat) (at : ℕ) : Type 0 where
  pub at_is : at ≡ length old.entries
  pub light : kept old.entries + weight entry ≤ limit
  pub opening_is : new.opening ≡ old.opening
  pub entries_are : new.entries ≡ old.entries ++ entry ∷ []
  pub marked : t ≡ with_mark s (λ at. Entered at entry looked found)

pub record IsTooHeavy (entry : Entry) (limit done : ℕ) (old new : Journal) (s t : Seat)
    (kept_ weight_ limit_ done_ : ℕ) : Type 0 where
  pub kept_is : kept_ ≡ kept old.entries
  pub weight_is : weight_ ≡ weight entry
  pub limit_is : limit_ ≡ limit
  pub done_is : done_ ≡ done
  pub above : limit < kept_ + weight_
  pub same : new ≡ old
  pub marked : t ≡ with_mark s (λ at. Overweight at entry.footprint entry.actions kept_ weight_ limit_)

pub record IsLeftOut (done : ℕ) (old new : Journal) (s t : Seat) (done_ : ℕ) : Type 0 where
  pub done_is : done_ ≡ done
  pub same : new ≡ old
  pub unmarked : t ≡ s

-- An entry was added where the history is within the limit with it, and these records were then found in these states; or
-- it was too heavy, or memory ran out.
abbrev pub Enters : Entry → List ℕ → List RecState → ℕ → ℕ → Journal → Journal → Seat → Seat → Result ℕ PutAnswer
    → Type 0
Enters entry looked found limit done old new s t (Ok at) = IsPushed entry looked found limit old new s t at
Enters entry looked found limit done old new s t (Err (answers.Refused refusal)) = ⊥
Enters entry looked found limit done old new s t (Err (answers.JournalFull kept weight limit_ done_)) =
    IsTooHeavy entry limit done old new s t kept weight limit_ done_
Enters entry looked found limit done old new s t (Err (answers.NoMemory done_)) = IsLeftOut done old new s t done_

-- ---- one entry of a put

-- an entry holds what an entry with these actions holds, behind which these records are looked at: none for a put
pub record IsHeld (site : SiteData) (moment : Moment) (actions : List (ℕ × Action)) (looked : List ℕ)
    (entry : Entry) : Type 0 where
  pub actions_are : entry.actions ≡ actions
  pub footprint_is : entry.footprint ≡ footprint_with site actions looked
  pub moment_is : entry.moment ≡ moment

pub record IsAddedNow (site : SiteData) (moment : Moment) (actions : List (ℕ × Action)) (looked : List ℕ)
    (found : List RecState) (s t : Seat) (old new : Ports) (at : ℕ) : Type 0 where
  pub entry : Entry
  pub held : IsHeld site moment actions looked entry
  pub at_is : at ≡ now s
  pub adds : Adds s t (Entered (now s) entry looked found ∷ [])
  pub entries_are : entries t.seen ≡ entries s.seen ++ (s.number, entry) ∷ []
  pub ends : EndsAtLastMark t
  pub driven : AreDriven old new entry.drove entry.writes

pub record IsFullNow (site : SiteData) (moment : Moment) (actions : List (ℕ × Action)) (looked : List ℕ) (s t : Seat)
    (old new : Ports) (kept weight limit : ℕ) : Type 0 where
  pub adds : Adds s t (Overweight (now s) (footprint_with site actions looked) actions kept weight limit ∷ [])
  pub same : t.seen ≡ s.seen
  pub ends : EndsAtLastMark t
  pub tried : IsBroken site.configs (state_at s.seen (now s)) old new actions moment

pub record IsStoppedNow (site : SiteData) (moment : Moment) (actions : List (ℕ × Action)) (s t : Seat)
    (old new : Ports) : Type 0 where
  pub same : t ≡ s
  pub tried : IsBroken site.configs (state_at s.seen (now s)) old new actions moment

-- What an entry with these actions came to, behind so many others of its put, where these records were then to be
-- found in these states.
abbrev pub IsPutNow : SiteData → Moment → List (ℕ × Action) → List ℕ → List RecState → ℕ → Seat → Seat → Ports → Ports
    → Result ℕ PutAnswer → Type 0
IsPutNow site moment actions looked found done s t old new (Ok at) =
    IsAddedNow site moment actions looked found s t old new at
IsPutNow site moment actions looked found done s t old new (Err (answers.Refused refusal)) = ⊥
IsPutNow site moment actions looked found done s t old new (Err (answers.JournalFull kept weight limit done_)) =
    IsFullNow site moment actions looked s t old new kept weight limit × (done_ ≡ done)
IsPutNow site moment actions looked found done s t old new (Err (answers.NoMemory done_)) =
    IsStoppedNow site moment actions s t old new × (done_ ≡ done)

-- ---- several entries of a put

-- from this place on each of these entries was added, and is what its mark tells
abbrev pub AreHeld : SiteData → Moment → ℕ → List (List (ℕ × Action)) → List Entry → List Mark → Type 0
AreHeld site moment at [] [] [] = ⊤
AreHeld site moment at (actions ∷ asked) (entry ∷ added) (mark ∷ marks) =
    IsHeld site moment actions [] entry × (mark ≡ Entered at entry [] []) × AreHeld site moment (at + 1) asked added marks
AreHeld site moment at asked added marks = ⊥

-- These entries of a put were added, one after another, and drove the ports in turn.
pub record AreBegun (site : SiteData) (moment : Moment) (asked : List (List (ℕ × Action))) (s t : Seat)
    (old new : Ports) : Type 0 where
  pub added : List Entry
  pub marks : List Mark
  pub adds : Adds s t marks
  pub held : AreHeld site moment (now s) asked added marks
  pub entries_are : entries t.seen ≡ entries s.seen ++ map (λ entry. (s.number, entry)) added
  pub ends : EndsAtItsMarks s t
  pub driven : AreDrivenInTurn old new added

-- A put of these entries was done.
pub record AreAllPut (site : SiteData) (moment : Moment) (asked : List (List (ℕ × Action))) (s t : Seat)
    (old new : Ports) (done : Done) : Type 0 where
  pub begun : AreBegun site moment asked s t old new
  pub first_is : done.first ≡ now s
  pub count_is : done.count ≡ length asked

-- The first entries of a put were added, so many, and the next one was too heavy.
pub record AreFullAfter (site : SiteData) (moment : Moment) (asked : List (List (ℕ × Action))) (s t : Seat)
    (old new : Ports) (kept weight limit done : ℕ) : Type 0 where
  pub middle : Seat
  pub between : Ports
  pub begun : AreBegun site moment (take done asked) s middle old between
  pub as_many : length (take done asked) ≡ done
  pub actions : List (ℕ × Action)
  pub next : slice_get asked done ≡ Some actions
  pub full : IsFullNow site moment actions [] middle t between new kept weight limit

-- The same, and for the next one memory ran out.
pub record AreStoppedAfter (site : SiteData) (moment : Moment) (asked : List (List (ℕ × Action))) (s t : Seat)
    (old new : Ports) (done : ℕ) : Type 0 where
  pub between : Ports
  pub begun : AreBegun site moment (take done asked) s t old between
  pub as_many : length (take done asked) ≡ done
  pub actions : List (ℕ × Action)
  pub next : slice_get asked done ≡ Some actions
  pub tried : IsBroken site.configs (state_at t.seen (now t)) between new actions moment

-- What a put of these entries came to.
abbrev pub ArePutInTurn : SiteData → Moment → List (List (ℕ × Action)) → Seat → Seat → Ports → Ports
    → Result Done PutAnswer → Type 0
ArePutInTurn site moment asked s t old new (Ok done) = AreAllPut site moment asked s t old new done
ArePutInTurn site moment asked s t old new (Err (answers.Refused refusal)) = ⊥
ArePutInTurn site moment asked s t old new (Err (answers.JournalFull kept weight limit done)) =
    AreFullAfter site moment asked s t old new kept weight limit done
ArePutInTurn site moment asked s t old new (Err (answers.NoMemory done)) =
    AreStoppedAfter site moment asked s t old new done
