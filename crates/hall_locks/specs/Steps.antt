-- What each step of a seat must meet, and what it tells: no step can be made whose word here doesn't hold.
-- `m` is what the seat knows and which slots it has before the step, `w` after it, and `found` the word as it was.
use Rattle.std.specs.Prelude.{◌≡◌, ◌≢◌, ℕ, suc, ◌<◌, List, ◌∷◌, Option, None}
use Rattle.atomic_table.specs.Table.{Me, Step, rest}
use Rattle.histories.specs.declared.story.Story.{Story}
use Rattle.histories.specs.History.{Every, Begins, deeds_by}
use Rattle.hall_core.specs.Meanings.{Meaning, Among, AreDistinct}
use Rattle.hall_locks.specs.declared.view.View.{View}
use Rattle.hall_locks.specs.declared.view.Place.{Place}
use Rattle.hall_locks.specs.declared.view.Place.TheVariants.{Cell, Hub}
use Rattle.hall_locks.specs.Hall.{HadAll, WasShown, new_view, with_cell, with_cells, with_hub, given_hub, numbers_of}
use Rattle.hall_locks.specs.Hands.{Found}
use Rattle.hall_locks.specs.Lines.{word_at}

module _ {H E B M R S : Type 0} where
  -- the order of taking: above all cells in hand, in the footprint, and never with the hub in hand
  pub record MayTake (v : View H E B M R S) (bound : List ℕ) (c : ℕ) : Type 0 where
    pub above : Every (λ p. p.0 < c) v.cells
    pub among : Among c bound
    pub within : Every (λ p. Among p.0 bound) v.cells
    pub no_hub : v.hub ≡ None

  -- what a seat knows of the others: all that it has seen begins one history, in which nobody did anything in its name,
  -- and each log in its view is of another seat
  pub record Knows (v : View H E B M R S) : Type 0 where
    pub history : Story B E R
    pub seen : Begins v.seen history
    pub old : Every (λ h. Begins h history) v.old
    pub did : deeds_by v.number v.seen.deeds ≡ deeds_by v.number history.deeds
    pub had : HadAll v.number v.old history
    pub distinct : AreDistinct (v.number ∷ numbers_of v.others)

module _ {C H E B M R S : Type 0} where
  -- the cell that was taken last is given back, and not under the hub
  abbrev pub GivesCell : Step (Place C H) → Me (Place C H) (View H E B M R S) → ℕ
      → Me (Place C H) (View H E B M R S) → Type 0
  GivesCell st m found w =
      (x : ℕ × Place C H) × (m.1 ≡ x ∷ w.1) × (w.0 ≡ with_cells m.0 (rest m.0.cells)) × (m.0.hub ≡ None)

  -- a note becomes a pass, whose number is above all that the note names
  abbrev pub Enters : Step (Place C H) → Me (Place C H) (View H E B M R S) → ℕ → Me (Place C H) (View H E B M R S)
      → Type 0
  Enters st m found w = (n : ℕ) × (w ≡ (new_view n m.0.seen, m.1)) × Every (λ k. k < n) m.0.before

  -- nothing changes, and the seat knows of the others
  abbrev pub Compares : Step (Place C H) → Me (Place C H) (View H E B M R S) → ℕ → Me (Place C H) (View H E B M R S)
      → Type 0
  Compares st m found w = (w ≡ m) × Knows m.0

module _ {C H E B M R S : Type 0} (law : Meaning C H E B M R S) where
  -- the free cell of this word was taken, in the order of taking
  pub record TookCell (bound : List ℕ) (word : ℕ) (m w : Me (Place C H) (View H E B M R S)) : Type 0 where
    pub cell : ℕ
    pub value : C
    pub of_word : word ≡ word_at (suc cell)
    pub may : MayTake m.0 bound cell
    pub now : w ≡ (with_cell m.0 bound cell (law.shows value), (suc cell, Cell value) ∷ m.1)
    pub was : WasShown law m.0.seen.base (cell, law.shows value)

  -- the cell of the word is taken where it is free, and nothing changes where it is taken already
  abbrev pub TakesCell : List ℕ → Step (Place C H) → Me (Place C H) (View H E B M R S) → ℕ
      → Me (Place C H) (View H E B M R S) → Type 0
  TakesCell bound st m found w = (found ≡ 0 → TookCell bound st.word m w) × (found ≢ 0 → w ≡ m)

  -- the free hub was taken
  pub record TookHub (m w : Me (Place C H) (View H E B M R S)) : Type 0 where
    pub hub : H
    pub seen : Story B E R
    pub now : w ≡ (with_hub m.0 seen hub, (0, Hub hub) ∷ m.1)
    pub found : Found law m.0 seen hub

  -- the hub is taken where it is free, and nothing changes where it is taken already
  abbrev pub TakesHub : Step (Place C H) → Me (Place C H) (View H E B M R S) → ℕ → Me (Place C H) (View H E B M R S)
      → Type 0
  TakesHub st m found w = (found ≡ 0 → TookHub m w) × (found ≢ 0 → w ≡ m)

  -- the hub is given back, with what its holder did
  abbrev pub GivesHub : Option M → Step (Place C H) → Me (Place C H) (View H E B M R S) → ℕ
      → Me (Place C H) (View H E B M R S) → Type 0
  GivesHub mark st m found w = (next : H) × (m.1 ≡ (0, Hub next) ∷ w.1) × (w.0 ≡ given_hub law m.0 next mark)
