-- The floor: cells and a hub, each with at most one holder, and actors that take them, commit entries and give them
-- back.
use Rattle.std.specs.Prelude.{◌≡◌, ◌≢◌, ◌↔◌, ℕ, ◌≤◌, Bool, true, false, List, [], ◌∷◌, ◌++◌, Option, Some, None, length, drop, map, replicate, slice_get, slice_set}
use Rattle.hall_core.specs.declared.floor.FloorEvent.{FloorEvent}
use Rattle.hall_core.specs.declared.floor.FloorEvent.TheVariants.{Take, TakeHub, Commit, Look, Give}
use Rattle.hall_core.specs.Meanings.{Meaning, Among}
use Rattle.histories.specs.History.{IsLegalAfter}

pub record FloorState (C H : Type 0) : Type 0 where
  pub cells : List C
  -- who holds each cell
  pub holders : List (Option ℕ)
  pub hub : H
  pub hub_holder : Option ℕ

-- what an actor does. A commit has the new hub, and the cells that it writes, each with its new value
pub data Event (C H : Type 0) : Type 0 where
  take_cell : ℕ → ℕ → Event C H
  take_hub : ℕ → Event C H
  commit : ℕ → H → List (ℕ × C) → Event C H
  look : ℕ → Event C H
  give_cell : ℕ → ℕ → Event C H

-- the event as the code has it
abbrev pub event_of : {T C H E B S M R : Type 0} → FloorEvent T C H E B S M R → Event C H
event_of (Take actor cell) = take_cell actor cell
event_of (TakeHub actor) = take_hub actor
event_of (Commit actor next) = commit actor next.hub next.writes.items
event_of (Look actor) = look actor
event_of (Give actor cell) = give_cell actor cell

-- a floor on which nobody holds anything
abbrev pub opened_with : {C H : Type 0} → List C → H → FloorState C H
opened_with cells hub = record { cells = cells; holders = replicate (length cells) None; hub = hub; hub_holder = None }

-- the actor holds the cell
abbrev pub Holds : {C H : Type 0} → FloorState C H → ℕ → ℕ → Type 0
Holds f actor cell = slice_get f.holders cell ≡ Some (Some actor)

-- whether the actor holds a cell at or above this one
abbrev pub HoldsOneFrom : List (Option ℕ) → ℕ → ℕ → Type 0
HoldsOneFrom holders actor cell = (above : ℕ) × (cell ≤ above) × (slice_get holders above ≡ Some (Some actor))

abbrev pub HoldsNoneFrom : List (Option ℕ) → ℕ → ℕ → Type 0
HoldsNoneFrom holders actor cell = (above : ℕ) → cell ≤ above → ¬ (slice_get holders above ≡ Some (Some actor))

-- the cells after these writes
abbrev pub written : {C : Type 0} → List C → List (ℕ × C) → List C
written cells [] = cells
written cells (w ∷ ws) = written (slice_set cells w.0 w.1) ws

-- each entry, with the actor
abbrev pub by_actor : {E : Type 0} → ℕ → List E → List (ℕ × E)
by_actor actor [] = []
by_actor actor (e ∷ es) = (actor, e) ∷ by_actor actor es

-- the entries, without their actors
abbrev pub entries_in : {E : Type 0} → List (ℕ × E) → List E
entries_in [] = []
entries_in (m ∷ ms) = m.1 ∷ entries_in ms

module _ {C H E B M R S : Type 0} (law : Meaning C H E B M R S) where
  -- each cell shows what the law gives after these entries
  abbrev pub Shows : B → List E → List C → Type 0
  Shows base entries cells =
      (cell : ℕ) (value : C) → slice_get cells cell ≡ Some value → law.shows value ≡ law.shown_after base entries cell

  -- each cell shows what the law gives after the journal, which is legal
  pub record IsSound (f : FloorState C H) : Type 0 where
    pub shown : Shows (law.base_of f.hub) (law.entries f.hub) f.cells
    pub legal : IsLegalAfter (law.may_follow (law.base_of f.hub)) [] (law.entries f.hub)

  -- what a commit owes: the hub has one more entry, which is legal, and the cells of its footprint are written with
  -- what the law gives after it
  pub record MayCommit (f : FloorState C H) (hub : H) (writes : List (ℕ × C)) : Type 0 where
    pub entry : E
    pub base : law.base_of hub ≡ law.base_of f.hub
    pub entries : law.entries hub ≡ law.entries f.hub ++ entry ∷ []
    pub legal : law.may_follow (law.base_of f.hub) (law.entries f.hub) entry
    pub footprint : (cell : ℕ) → Among cell (map (λ w. w.0) writes) ↔ Among cell (law.footprint entry)
    pub shown : (at : ℕ) (write : ℕ × C) → slice_get writes at ≡ Some write
        → law.shows write.1 ≡ law.shown_after (law.base_of f.hub) (law.entries hub) write.0

  -- what the caller of a step owes
  abbrev pub IsReady : FloorState C H → Event C H → Type 0
  IsReady f (take_cell actor cell) = Unit {0}
  IsReady f (take_hub actor) = Unit {0}
  IsReady f (commit actor hub writes) = MayCommit f hub writes
  IsReady f (look actor) = Unit {0}
  IsReady f (give_cell actor cell) = Unit {0}

  -- cells are taken in rising order, and the hub last. An entry needs the hub and every cell of its footprint
  abbrev pub IsEnabled : FloorState C H → Event C H → Type 0
  IsEnabled f (take_cell actor cell) =
      (slice_get f.holders cell ≡ Some None) × ((above : ℕ) → cell ≤ above → ¬ (Holds f actor above))
      × (f.hub_holder ≢ Some actor)
  IsEnabled f (take_hub actor) = f.hub_holder ≡ None
  IsEnabled f (commit actor hub writes) =
      (f.hub_holder ≡ Some actor)
      × ((entry : E) → law.entries hub ≡ law.entries f.hub ++ entry ∷ []
      → law.may_follow (law.base_of f.hub) (law.entries f.hub) entry
      × ((cell : ℕ) → Among cell (law.footprint entry) → Holds f actor cell))
  IsEnabled f (look actor) = f.hub_holder ≡ Some actor
  IsEnabled f (give_cell actor cell) = Holds f actor cell × (f.hub_holder ≢ Some actor)

  -- the floor after an event that is enabled
  abbrev pub after : FloorState C H → Event C H → FloorState C H
  after f (take_cell actor cell) = record f { holders = slice_set f.holders cell (Some actor) }
  after f (take_hub actor) = record f { hub_holder = Some actor }
  after f (commit actor hub writes) =
      record { cells = written f.cells writes; holders = f.holders; hub = hub; hub_holder = None }
  after f (look actor) = record f { hub_holder = None }
  after f (give_cell actor cell) = record f { holders = slice_set f.holders cell None }

  -- an event that isn't enabled is answered by false and changes nothing
  abbrev pub Steps : FloorState C H → Event C H → Bool → FloorState C H → Type 0
  Steps f event true g = IsEnabled f event × (g ≡ after f event)
  Steps f event false g = ¬ (IsEnabled f event) × (g ≡ f)

  -- what a step adds to the journal, and who added it
  abbrev pub made : FloorState C H → Event C H → Bool → List (ℕ × E)
  made f event false = []
  made f (take_cell actor cell) true = []
  made f (take_hub actor) true = []
  made f (commit actor hub writes) true = by_actor actor (drop (length (law.entries f.hub)) (law.entries hub))
  made f (look actor) true = []
  made f (give_cell actor cell) true = []

  -- the floor f goes by these events, with these answers, to the floor g, and the actors make these entries on the way
  pub data Runs : FloorState C H → List (Event C H) → List Bool → List (ℕ × E) → FloorState C H → Type 0 where
    ends : {f : FloorState C H} → Runs f [] [] [] f
    goes : {f m g : FloorState C H} {event : Event C H} {events : List (Event C H)} {answer : Bool}
        {answers : List Bool} {entries : List (ℕ × E)}
        → IsReady f event → Steps f event answer m → Runs m events answers entries g
        → Runs f (event ∷ events) (answer ∷ answers) (made f event answer ++ entries) g

-- whether by this event, where it is enabled, the actor neither commits nor looks nor gives the cell back
abbrev pub LeavesHeld : {C H : Type 0} → ℕ → ℕ → Event C H → Bool → Type 0
LeavesHeld actor cell event false = Unit {0}
LeavesHeld actor cell (take_cell by other) true = Unit {0}
LeavesHeld actor cell (take_hub by) true = Unit {0}
LeavesHeld actor cell (commit by hub writes) true = by ≢ actor
LeavesHeld actor cell (look by) true = by ≢ actor
LeavesHeld actor cell (give_cell by other) true = by ≡ actor → other ≢ cell

abbrev pub AllLeaveHeld : {C H : Type 0} → ℕ → ℕ → List (Event C H) → List Bool → Type 0
AllLeaveHeld actor cell [] answers = Unit {0}
AllLeaveHeld actor cell (event ∷ events) [] = Unit {0}
AllLeaveHeld actor cell (event ∷ events) (answer ∷ answers) =
    LeavesHeld actor cell event answer × AllLeaveHeld actor cell events answers

-- what holds of every list of events
module _ {C H E B S M R : Type 0} (law : Meaning C H E B M R S) where
  abbrev pub StaysSound : Type 0
  StaysSound = (f g : FloorState C H) (events : List (Event C H)) (answers : List Bool) (entries : List (ℕ × E))
      → Runs law f events answers entries g → IsSound law f → IsSound law g

  abbrev pub JournalGrows : Type 0
  JournalGrows = (f g : FloorState C H) (events : List (Event C H)) (answers : List Bool) (entries : List (ℕ × E))
      → Runs law f events answers entries g
      → (law.base_of g.hub ≡ law.base_of f.hub) × (law.entries g.hub ≡ law.entries f.hub ++ entries_in entries)

  -- the cell has at the end the value that it had when the actor held it
  abbrev pub HeldCellStays : Type 0
  HeldCellStays =
      (f g : FloorState C H) (events : List (Event C H)) (answers : List Bool) (entries : List (ℕ × E)) (actor cell : ℕ)
      → Runs law f events answers entries g → Holds f actor cell → AllLeaveHeld actor cell events answers
      → (slice_get g.cells cell ≡ slice_get f.cells cell) × Holds g actor cell
