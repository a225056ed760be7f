-- How puts drive the ports of their records (EPICS record reference, "DTYP", "OUT").
use Rattle.std.specs.Prelude.{◌≡◌, ℕ, Bool, true, false, List, [], ◌∷◌, length, map, set, take, drop, is_some, Option}
use Rattle.std.specs.Prelude.{None, Some, Result, Ok, Err, slice_get, ◌⊎◌}
use Rattle.pva_outside.specs.Ports.{PortView, IsDriven}
use Rattle.pva_outside.specs.declared.port.DriveStep.{DriveStep}
use Rattle.pva_outside.specs.declared.port.DriveStep.TheVariants.{Drove, Failed}
use Rattle.rec_kinds.specs.Configs.{Config}
use Rattle.rec_kinds.specs.Texts.{text_of_datum}
use Rattle.rec_kinds.specs.declared.datum.Action.{Action}
use Rattle.rec_kinds.specs.declared.state.RecState.{RecState}
use Rattle.journal_core.specs.Legality.{AreProcessed}
use Rattle.journal_core.specs.declared.entry.Entry.{Entry}
use Rattle.desk_api.specs.History.{entries, state_at}
use Rattle.desk_api.specs.Calls.{Asked, asked_entries, entries_or_none, now}
use Rattle.desk_api.specs.declared.mark.Seat.{Seat}
use Rattle.desk_api.specs.declared.put.Done.{Done}
use Rattle.desk_api.specs.declared.put.PutAnswer.{PutAnswer}
use Rattle.desk_api.specs.declared.put.PutAnswer.TheVariants as answers

-- what is known of the ports of records, in order: nothing of a record without one
abbrev pub Ports : Type 0
Ports = List (Option PortView)

-- which of these records are to have a port
abbrev pub ports_wanted : List Config → List Bool
ports_wanted configs = map (λ config. is_some config.port) configs

-- at which of these places there is one
abbrev pub ports_there : {P : Type 0} → List (Option P) → List Bool
ports_there ports = map (λ port. is_some port) ports

-- what a drive came to, by whether the port took the text
abbrev pub step_of : Bool → DriveStep
step_of true = Drove
step_of false = Failed

-- The port, if there is one, was driven once with this text. Without a port it is told as taken.
abbrev pub IsDrivenOnce : Option PortView → Option PortView → Bool → List ℕ → Type 0
IsDrivenOnce None new drove text = (new ≡ None) × (drove ≡ true)
IsDrivenOnce (Some old) None drove text = ⊥
IsDrivenOnce (Some old) (Some new) drove text = IsDriven old new (step_of drove) text

-- The port of one record was driven so, and no other.
pub record IsDrivenAt (old new : Ports) (rec : ℕ) (drove : Bool) (text : List ℕ) : Type 0 where
  pub before : Option PortView
  pub after : Option PortView
  pub there : slice_get old rec ≡ Some before
  pub driven : IsDrivenOnce before after drove text
  pub others : new ≡ set old rec after

-- Each of these writes drove the port of its record once, in order, with the plain text of the state that it writes.
abbrev pub AreDriven : Ports → Ports → List Bool → List (ℕ × RecState) → Type 0
AreDriven old new [] [] = new ≡ old
AreDriven old new (drove ∷ drives) (write ∷ writes) =
    ((next : Ports) × IsDrivenAt old next write.0 drove (text_of_datum write.1.datum)
    × AreDriven next new drives writes)
AreDriven old new _ _ = ⊥

-- Entries drove the ports, one after another: each of their actions once.
abbrev pub AreDrivenInTurn : Ports → Ports → List Entry → Type 0
AreDrivenInTurn old new [] = new ≡ old
AreDrivenInTurn old new (entry ∷ entries) =
    ((next : Ports) × AreDriven old next entry.drove entry.writes × AreDrivenInTurn next new entries)

-- From this place on the history has these entries of the seat.
abbrev pub AreOwnFrom : Seat → ℕ → List Entry → Type 0
AreOwnFrom s at added = map (λ entry. (s.number, entry)) added ≡ take (length added) (drop at (entries s.seen))

-- The entries that a put added drove the ports.
pub record AreDrivenBy (s : Seat) (old new : Ports) (done : Done) : Type 0 where
  pub added : List Entry
  pub as_many : length added ≡ done.count
  pub there : AreOwnFrom s done.first added
  pub driven : AreDrivenInTurn old new added

-- the actions of the entry that a put adds behind so many others, and none where there is no such entry
abbrev pub actions_or_none : Option (List (ℕ × Action)) → List (ℕ × Action)
actions_or_none (Some actions) = actions
actions_or_none None = []

abbrev pub next_actions : Asked → ℕ → List (ℕ × Action)
next_actions asked done = actions_or_none (slice_get (entries_or_none (asked_entries asked)) done)

-- A put that ended behind so many entries: these drove the ports, and then the first actions of the next one did,
-- each once, or none: with what these would have written.
pub record AreDrivenInPart (s t : Seat) (old new : Ports) (asked : Asked) (done : ℕ) : Type 0 where
  pub added : List Entry
  pub as_many : length added ≡ done
  pub there : AreOwnFrom t (now s) added
  pub between : Ports
  pub driven : AreDrivenInTurn old between added
  pub drives : List Bool
  pub writes : List (ℕ × RecState)
  pub tried : AreDriven between new drives writes
  pub first : AreProcessed asked.site.configs (state_at t.seen (now t)) asked.moment
      (take (length writes) (next_actions asked done)) drives writes

-- What a put did to the ports, by its answer. A put that is refused drives none.
abbrev pub DrivesPorts : Seat → Seat → Ports → Ports → Asked → Result Done PutAnswer → Type 0
DrivesPorts s t old new asked (Ok done) = AreDrivenBy t old new done
DrivesPorts s t old new asked (Err (answers.Refused refusal)) = new ≡ old
DrivesPorts s t old new asked (Err (answers.JournalFull kept weight limit done)) =
    AreDrivenInPart s t old new asked done
DrivesPorts s t old new asked (Err (answers.NoMemory done)) = AreDrivenInPart s t old new asked done

-- a port that was driven once with this text, or not at all
abbrev pub IsTried : Option PortView → Option PortView → List ℕ → Type 0
IsTried old new text = (new ≡ old) ⊎ ((drove : Bool) × IsDrivenOnce old new drove text)

-- the same of the port of one record, and no other
abbrev pub IsTriedAt : Ports → Ports → ℕ → List ℕ → Type 0
IsTriedAt old new rec text = (new ≡ old) ⊎ ((drove : Bool) × IsDrivenAt old new rec drove text)
