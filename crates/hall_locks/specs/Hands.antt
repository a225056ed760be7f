-- What a pass and a visit have in hand.
use Rattle.std.specs.Prelude.{◌≡◌, ◌≢◌, ℕ, suc, ◌+◌, ◌<◌, ◌&&◌, nat_lt, Bool, true, List, [], ◌∷◌, ◌++◌, map, reverse, take, drop, is_some, Option, Some, None}
use Rattle.atomic_table.specs.Table.{Me}
use Rattle.histories.specs.declared.story.Story.{Story}
use Rattle.histories.specs.declared.story.Deed.{Deed}
use Rattle.histories.specs.declared.story.Deed.TheVariants.{Entry, Item}
use Rattle.hall_core.specs.Meanings.{Among, AreDistinct, Meaning, Adds, adds_nothing, adds_entry, adds_item, Pairs}
use Rattle.histories.specs.History.{Begins, IsLegalAfter, entries_of, deeds_by, Every}
use Rattle.hall_locks.specs.declared.view.View.{View}
use Rattle.hall_locks.specs.declared.view.Place.{Place}
use Rattle.hall_locks.specs.declared.view.Place.TheVariants.{Away, Hub}
use Rattle.hall_locks.specs.Hall.{numbers_of, grown, with_mark, shown_by, shown_cells, IsTrueMark}

-- each is above the one before it
abbrev pub Rises : List ℕ → Type 0
Rises [] = Unit {0}
Rises (c ∷ cs) = Every (λ d. c < d) cs × Rises cs

-- slots whose values were moved out
abbrev pub aways : {C H S : Type 0} → List (ℕ × S) → List (ℕ × Place C H)
aways [] = []
aways (p ∷ ps) = (suc p.0, Away) ∷ aways ps

-- the slot of the hub in hand, whose value was left there
abbrev pub there : {C H : Type 0} → Option H → List (ℕ × Place C H)
there None = []
there (Some h) = (0, Hub h) ∷ []

abbrev pub values_of : {C : Type 0} → List (ℕ × C) → List C
values_of [] = []
values_of (p ∷ ps) = p.1 ∷ values_of ps

-- the item of the roll that is added, if any
abbrev pub item_of : {E R : Type 0} → Adds R → Option (Deed E R)
item_of adds_nothing = None
item_of adds_entry = None
item_of (adds_item r) = Some (Item r)

-- the cells have slots in the table, behind the hub's
abbrev pub have_slots : ℕ → List ℕ → Bool
have_slots slots [] = true
have_slots slots (c ∷ cs) = nat_lt (c + 1) slots && have_slots slots cs

module _ {H E B M R S : Type 0} where
  -- the same view, but for the cells in hand and the footprint
  abbrev pub in_visit : View H E B M R S → List ℕ → List (ℕ × S) → View H E B M R S
  in_visit v bound cs = record v { bound = bound; cells = cs }

module _ {C H E B M R S : Type 0} where
  -- nothing is in hand
  pub record Rests (m : Me (Place C H) (View H E B M R S)) : Type 0 where
    pub live : m.0.live ≡ true
    pub cells : m.0.cells ≡ []
    pub hub : m.0.hub ≡ None
    pub slots : m.1 ≡ []

  -- the cells of the footprint are in hand, and not the hub
  pub record Carries (m : Me (Place C H) (View H E B M R S)) (footprint : List ℕ) : Type 0 where
    pub live : m.0.live ≡ true
    pub hub : m.0.hub ≡ None
    pub slots : m.1 ≡ aways m.0.cells
    pub numbers : numbers_of m.0.cells ≡ reverse footprint

  -- the first i cells of the footprint are in hand
  pub record Taking (first m : Me (Place C H) (View H E B M R S)) (bound footprint : List ℕ) (count i : ℕ)
      (shown : List S) : Type 0 where
    pub slots : m.1 ≡ aways m.0.cells
    pub numbers : numbers_of m.0.cells ≡ reverse (take i footprint)
    pub values : values_of m.0.cells ≡ reverse shown
    pub same : m.0 ≡ in_visit first.0 m.0.bound m.0.cells
    pub below : Every (λ p. Every (λ d. p.0 < d) (drop i footprint)) m.0.cells
    pub rises : Rises (drop i footprint)
    pub bounded : Every (λ p. Among p.0 bound) m.0.cells
    pub inside : Every (λ c. c < count) (drop i footprint)

  -- the hub is in hand above the cells of the footprint
  pub record HoldsHub (m : Me (Place C H) (View H E B M R S)) (footprint : List ℕ) : Type 0 where
    pub live : m.0.live ≡ true
    pub slots : m.1 ≡ (0, Away) ∷ aways m.0.cells
    pub numbers : numbers_of m.0.cells ≡ reverse footprint

  -- the same, and the hub is there, in its slot as it was taken
  pub record GlancesAtHub (m : Me (Place C H) (View H E B M R S)) (footprint : List ℕ) : Type 0 where
    pub live : m.0.live ≡ true
    pub hub : is_some m.0.hub ≡ true
    pub slots : m.1 ≡ there m.0.hub ++ aways m.0.cells
    pub numbers : numbers_of m.0.cells ≡ reverse footprint

module _ {C H E B M R S : Type 0} (law : Meaning C H E B M R S) where
  -- what a seat finds that takes the hub: its history, which goes on from what was seen
  pub record Found (before : View H E B M R S) (seen : Story B E R) (hub : H) : Type 0 where
    pub goes_on : Begins before.seen seen
    pub base : law.base_of hub ≡ seen.base
    pub entries : law.entries hub ≡ entries_of seen.deeds
    -- the hub keeps of the seat what the law says of its log, and its log is that of what it did
    pub own : law.keeps hub seen before.number before.log
    pub logged : Pairs law.adds law.fits before.log (deeds_by before.number seen.deeds)
    pub legal : IsLegalAfter (law.may_follow seen.base) [] (entries_of seen.deeds)
    pub shown : Every (λ p. p.1 ≡ shown_by law seen p.0) before.cells
    -- nobody else did anything in the seat's name
    pub did : deeds_by before.number seen.deeds ≡ deeds_by before.number before.seen.deeds
    -- the logs that it took in are of other seats, and each is that of all that its seat did
    pub distinct : AreDistinct (before.number ∷ numbers_of before.others)
    pub others_logged : Every (λ p. Pairs law.adds law.fits p.1 (deeds_by p.0 seen.deeds)) before.others

  -- each cell in hand shows what it showed when it was taken. The view has the last one first
  abbrev pub AsTaken : View H E B M R S → List C → Type 0
  AsTaken v cells = values_of v.cells ≡ reverse (map law.shows cells)

  -- each cell in hand shows what the law gives after the history
  abbrev pub AsAfter : View H E B M R S → Story B E R → List C → Type 0
  AsAfter v h cells = values_of (shown_cells law h v.cells) ≡ reverse (map law.shows cells)

  -- the history after the seat made this entry
  abbrev pub with_entry : View H E B M R S → E → Story B E R
  with_entry v entry = grown v.seen v.number (Some (Entry entry))

  -- the hub has this entry behind those of the history
  abbrev pub IsOneMore : View H E B M R S → H → E → Type 0
  IsOneMore v next entry = law.entries next ≡ entries_of v.seen.deeds ++ entry ∷ []

  -- what a commit owes: the hub has one more entry, which is legal, whose cells are in hand and show what the law gives
  -- after it, and it keeps what the law says of every seat
  pub record MayCommit (v : View H E B M R S) (next : H) (cells : List C) (mark : Option M) : Type 0 where
    -- the hub as it was taken
    pub found : H
    pub was : v.hub ≡ Some found
    pub entry : E
    pub base : law.base_of next ≡ v.seen.base
    pub entries : IsOneMore v next entry
    pub legal : law.may_follow v.seen.base (entries_of v.seen.deeds) entry
    pub footprint : (c : ℕ) → Among c (law.footprint entry) → Among c (numbers_of v.cells)
    pub shown : AsAfter v (with_entry v entry) cells
    -- the mark, which fits the entry and is true
    pub named : M
    pub marked : mark ≡ Some named
    pub adds : law.adds named ≡ adds_entry
    pub fits : law.fits named entry
    pub true_mark : law.is_true named (with_entry v entry) v.number v.log
    pub own : law.keeps next (with_entry v entry) v.number (v.log ++ named ∷ [])
    pub others : (k : ℕ) (log : List M) → k ≢ v.number → law.keeps found v.seen k log
        → law.keeps next (with_entry v entry) k log

  -- the mark adds no entry
  abbrev pub AddsNoEntry : Option M → Type 0
  AddsNoEntry None = Unit {0}
  AddsNoEntry (Some m) = law.adds m ≢ adds_entry

  -- the item of the roll that the mark adds, if any
  abbrev pub looked_at : Option M → Option (Deed E R)
  looked_at None = None
  looked_at (Some m) = item_of (law.adds m)

  -- the history after a look with this mark
  abbrev pub with_look : View H E B M R S → Option M → Story B E R
  with_look v mark = grown v.seen v.number (looked_at mark)

  -- what a look owes: the hub has no more entries, the cells show what they showed, and the hub keeps what the law says
  -- of every seat
  pub record MayLook (v : View H E B M R S) (next : H) (cells : List C) (mark : Option M) : Type 0 where
    -- the hub as it was taken
    pub found : H
    pub was : v.hub ≡ Some found
    pub base : law.base_of next ≡ v.seen.base
    pub entries : law.entries next ≡ entries_of v.seen.deeds
    pub taken : AsTaken v cells
    -- the mark, if any, which is true
    pub adds : AddsNoEntry mark
    pub true_mark : IsTrueMark law mark (with_look v mark) v.number v.log
    pub own : law.keeps next (with_look v mark) v.number (with_mark v.log mark)
    pub others : (k : ℕ) (log : List M) → k ≢ v.number → law.keeps found v.seen k log
        → law.keeps next (with_look v mark) k log

  -- what a look owes whose hub stayed in its slot
  abbrev pub MayGlance : View H E B M R S → List C → Option M → Type 0
  MayGlance v cells mark = (hub : H) × (v.hub ≡ Some hub) × MayLook v hub cells mark
