-- The rule of a hall. `specs/Steps.antt` has what each step of a seat must meet and tells.
-- Word 0 is the hub's, and word c + 1 that of cell c, as `specs/Lines.antt` has them side by side. A word is 0 while its
-- cell or hub is free, 1 while it is taken, and 2 while it is taken and somebody may wait for it.
use Rattle.std.specs.Prelude.{◌≡◌, ◌≢◌, nat_le, ℕ, suc, ◌+◌, ◌<◌, ◌≤◌, Bool, true, false, List, [], ◌∷◌, ◌++◌, length, slice_index, slice_get, Option, None, Some, zero}
use mathlib.Core.Option.{some}
use lib.ListN.{get_elem?}
use Rattle.atomic_table.specs.Table.{State}
use Rattle.histories.specs.declared.story.Story.{Story}
use Rattle.histories.specs.declared.story.Deed.{Deed}
use Rattle.histories.specs.declared.story.Deed.TheVariants.{Entry, Item}
use Rattle.hall_core.specs.Meanings.{Meaning, Adds, adds_nothing, adds_entry, adds_item, Among, AreDistinct, Pairs}
use Rattle.histories.specs.History.{entries_by_seat, Every, Begins, IsLegalAfter, AllTrue, entries_of, deeds_by}
use Rattle.hall_core.specs.Floor.{FloorState, Event, Shows, Runs, entries_in}
use Rattle.hall_locks.specs.declared.view.View.{View}
use Rattle.hall_locks.specs.declared.view.Place.{Place}
use Rattle.hall_locks.specs.declared.view.Place.TheVariants.{Cell, Hub}

abbrev pub numbers_of : {A : Type 0} → List (ℕ × A) → List ℕ
numbers_of [] = []
numbers_of (p ∷ ps) = p.0 ∷ numbers_of ps

-- each is below the one before it
abbrev pub Falls : {A : Type 0} → List (ℕ × A) → Type 0
Falls [] = Unit {0}
Falls (x ∷ xs) = Every (λ y. y.0 < x.0) xs × Falls xs

abbrev pub no_story : {B E R : Type 0} → B → Story B E R
no_story g = record { base = g; deeds = [] }

-- what the seat did comes behind
abbrev pub grown : {B E R : Type 0} → Story B E R → ℕ → Option (Deed E R) → Story B E R
grown h n None = h
grown h n (Some d) = record { base = h.base; deeds = h.deeds ++ (n, d) ∷ [] }

abbrev pub with_mark : {M : Type 0} → List M → Option M → List M
with_mark log None = log
with_mark log (Some m) = log ++ m ∷ []

-- the last entry, as what a seat did
abbrev pub last_entry : {E R : Type 0} → List E → Option (Deed E R)
last_entry [] = None
last_entry (e ∷ []) = Some (Entry e)
last_entry (e ∷ f ∷ es) = last_entry (f ∷ es)

abbrev pub deed_by : {E R : Type 0} → Adds R → List E → Option (Deed E R)
deed_by adds_nothing es = None
deed_by adds_entry es = last_entry es
deed_by (adds_item r) es = Some (Item r)

-- what the mark adds is what was done
abbrev pub IsDone : {E R : Type 0} → Adds R → (E → Type 0) → Option (Deed E R) → Type 0
IsDone adds_nothing fit None = Unit {0}
IsDone adds_nothing fit (Some d) = ⊥
IsDone adds_entry fit None = ⊥
IsDone adds_entry fit (Some (Entry e)) = fit e
IsDone adds_entry fit (Some (Item i)) = ⊥
IsDone (adds_item r) fit None = ⊥
IsDone (adds_item r) fit (Some (Entry e)) = ⊥
IsDone (adds_item r) fit (Some (Item i)) = i ≡ r

-- who has a word: nobody, or the seat that is 1 less
abbrev pub owner : ℕ → Option ℕ
owner zero = None
owner (suc seat) = Some seat

-- the longer of two beginnings of one history
abbrev pub longer_if : {A : Type 0} → Bool → A → A → A
longer_if true h k = k
longer_if false h k = h

abbrev pub longer : {B E R : Type 0} → Story B E R → Story B E R → Story B E R
longer h k = longer_if (nat_le (length h.deeds) (length k.deeds)) h k

-- what a seat had seen itself, the first of these, has all that it did
abbrev pub HadAll : {B E R : Type 0} → ℕ → List (Story B E R) → Story B E R → Type 0
HadAll seat [] journal = Unit {0}
HadAll seat (h ∷ hs) journal = deeds_by seat h.deeds ≡ deeds_by seat journal.deeds

-- the view of a new pass
abbrev pub new_view : {H E B M R S : Type 0} → ℕ → Story B E R → View H E B M R S
new_view n h = record {
  live = true;
  tells = true;
  number = n;
  seen = h;
  old = [];
  log = [];
  others = [];
  before = [];
  bound = [];
  cells = [];
  hub = None;
}

abbrev pub first_view : {H E B M R S : Type 0} → B → View H E B M R S
first_view g = new_view 0 (no_story g)

-- a note of what was seen, and of seats that were before it
abbrev pub note_view : {H E B M R S : Type 0} → Story B E R → List ℕ → View H E B M R S
note_view h numbers = record {
  live = false;
  tells = true;
  number = 0;
  seen = h;
  old = [];
  log = [];
  others = [];
  before = numbers;
  bound = [];
  cells = [];
  hub = None;
}

-- what is left of a seat that was joined to another
abbrev pub spent_view : {H E B M R S : Type 0} → B → View H E B M R S
spent_view g = record {
  live = false;
  tells = false;
  number = 0;
  seen = no_story g;
  old = [];
  log = [];
  others = [];
  before = [];
  bound = [];
  cells = [];
  hub = None;
}

module _ {H E B M R S : Type 0} where
  -- the view after a cell is taken that shows y, for a visit with this footprint
  abbrev pub with_cell : View H E B M R S → List ℕ → ℕ → S → View H E B M R S
  with_cell v bound c y = record v { bound = bound; cells = (c, y) ∷ v.cells }

  abbrev pub with_cells : View H E B M R S → List (ℕ × S) → View H E B M R S
  with_cells v cs = record v { cells = cs }

  -- the hub is taken, and the whole history seen
  abbrev pub with_hub : View H E B M R S → Story B E R → H → View H E B M R S
  with_hub v seen h = record v { seen = seen; old = []; hub = Some h }

  -- the hub is given back
  abbrev pub without_hub : View H E B M R S → Story B E R → List M → List (ℕ × S) → View H E B M R S
  without_hub v seen log cs = record v { seen = seen; old = []; log = log; cells = cs; hub = None }

  -- the view after a note is heard
  abbrev pub hearing : View H E B M R S → View H E B M R S → View H E B M R S
  hearing v n = record v { seen = longer v.seen n.seen; old = v.seen ∷ n.seen ∷ [] }

  -- the view after another pass is taken in
  abbrev pub merging : View H E B M R S → View H E B M R S → View H E B M R S
  merging v o = record v {
    seen = longer v.seen o.seen;
    old = v.seen ∷ o.seen ∷ [];
    others = v.others ++ (o.number, o.log) ∷ o.others;
  }

module _ {C H E B M R S : Type 0} (law : Meaning C H E B M R S) where
  -- what the cell shows after the history
  abbrev pub shown_by : Story B E R → ℕ → S
  shown_by h c = law.shown_after h.base (entries_of h.deeds) c

  -- these cells, as they show after the history
  abbrev pub shown_cells : Story B E R → List (ℕ × S) → List (ℕ × S)
  shown_cells h [] = []
  shown_cells h (p ∷ ps) = (p.0, shown_by h p.0) ∷ shown_cells h ps

  -- the cells in hand after a step that does this: an entry writes them
  abbrev pub cells_after : Story B E R → Option (Deed E R) → List (ℕ × S) → List (ℕ × S)
  cells_after h None cs = cs
  cells_after h (Some (Item i)) cs = cs
  cells_after h (Some (Entry e)) cs = shown_cells h cs

  -- what a step adds that gives the hub back as `next`
  abbrev pub deed_of : Option M → H → Option (Deed E R)
  deed_of None next = None
  deed_of (Some m) next = deed_by (law.adds m) (law.entries next)

  -- the view after it
  abbrev pub given_hub : View H E B M R S → H → Option M → View H E B M R S
  given_hub v next mark =
      without_hub v (grown v.seen v.number (deed_of mark next)) (with_mark v.log mark)
      (cells_after (grown v.seen v.number (deed_of mark next)) (deed_of mark next) v.cells)

  -- the hub holds the history, and keeps for each seat what the law says of that seat's log
  pub record IsHub (journal : Story B E R) (logs : ℕ → List M) (h : H) : Type 0 where
    pub base : law.base_of h ≡ journal.base
    pub entries : law.entries h ≡ entries_of journal.deeds
    pub keeps : (k : ℕ) → law.keeps h journal k (logs k)

  -- a cell in hand: no other seat has it, it lies in the visit's footprint, and it shows what the journal gives
  pub record InHand (journal : Story B E R) (holder : ℕ → ℕ) (bound : List ℕ) (seat : ℕ) (p : ℕ × S) : Type 0 where
    pub held : holder (suc p.0) ≡ suc seat
    pub bounded : Among p.0 bound
    pub value : p.1 ≡ shown_by journal p.0

  -- the hub in hand, as it was taken: nobody changes the history meanwhile
  pub record HubInHand (journal : Story B E R) (holder : ℕ → ℕ) (logs : ℕ → List M) (seat : ℕ) (seen : Story B E R)
      (h : H) : Type 0 where
    pub held : holder 0 ≡ suc seat
    pub whole : seen ≡ journal
    pub hub : IsHub journal logs h

  -- a cell that shows what the law gives after some legal entries
  abbrev pub WasShown : B → ℕ × S → Type 0
  WasShown base p = (es : List E) × IsLegalAfter (law.may_follow base) [] es × (p.1 ≡ law.shown_after base es p.0)

  -- an entry is legal after the history, and the cells of its footprint are in hand
  abbrev pub IsDue : Story B E R → List ℕ → Option (Deed E R) → Type 0
  IsDue h hand None = Unit {0}
  IsDue h hand (Some (Item i)) = Unit {0}
  IsDue h hand (Some (Entry e)) =
      law.may_follow h.base (entries_of h.deeds) e × ((c : ℕ) → Among c (law.footprint e) → Among c hand)

  abbrev pub IsMarked : Option M → Option (Deed E R) → Type 0
  IsMarked None None = Unit {0}
  IsMarked None (Some d) = ⊥
  IsMarked (Some m) deed = IsDone (law.adds m) (law.fits m) deed

  abbrev pub IsTrueMark : Option M → Story B E R → ℕ → List M → Type 0
  IsTrueMark None h seat before = Unit {0}
  IsTrueMark (Some m) h seat before = law.is_true m h seat before

  -- what a seat with this view may do as it gives the hub back as `next`
  pub record MayGive (v : View H E B M R S) (next : H) (mark : Option M) : Type 0 where
    pub found : H
    pub was : v.hub ≡ Some found
    pub base : law.base_of next ≡ v.seen.base
    pub entries : law.entries next ≡ entries_of (grown v.seen v.number (deed_of mark next)).deeds
    pub due : IsDue v.seen (numbers_of v.cells) (deed_of mark next)
    pub others : (k : ℕ) (log : List M) → k ≢ v.number → law.keeps found v.seen k log
        → law.keeps next (grown v.seen v.number (deed_of mark next)) k log
    pub own : law.keeps next (grown v.seen v.number (deed_of mark next)) v.number (with_mark v.log mark)
    pub marked : IsMarked mark (deed_of mark next)
    pub true_mark : IsTrueMark mark (grown v.seen v.number (deed_of mark next)) v.number v.log

  -- what one view is to the journal
  pub record Fits (journal : Story B E R) (holder keeper : ℕ → ℕ) (logs : ℕ → List M) (seat : ℕ)
      (v : View H E B M R S) : Type 0 where
    pub seen : v.tells ≡ true → Begins v.seen journal
    pub old : Every (λ h. Begins h journal) v.old
    pub own : v.live ≡ true → (v.number ≡ seat) × (v.log ≡ logs seat) × (v.tells ≡ true) × (keeper seat ≡ suc seat)
    -- it has seen all that it did
    pub did : v.live ≡ true → deeds_by seat v.seen.deeds ≡ deeds_by seat journal.deeds
    pub had : v.live ≡ true → HadAll seat v.old journal
    pub others : Every (λ p. (p.1 ≡ logs p.0) × (keeper p.0 ≡ suc seat)) v.others
    pub distinct : AreDistinct (seat ∷ numbers_of v.others)
    -- a note names seats that were before it, and is no seat yet
    pub before : Every (λ n. n < seat) v.before
    pub unborn : v.live ≡ false → v.tells ≡ true → keeper seat ≡ 0
    pub cells : Every (InHand journal holder v.bound seat) v.cells
    pub falls : Falls v.cells
    pub hub : (h : H) → v.hub ≡ Some h → HubInHand journal holder logs seat v.seen h
    pub empty : v.live ≡ false → (v.cells ≡ []) × (v.hub ≡ None)

  pub record CellHome (journal : Story B E R) (homes : List (mathlib.Core.Option.Option (Place C H)))
      (c : ℕ) : Type 0 where
    pub value : C
    pub there : get_elem? homes (suc c) ≡ some (some (Cell value))
    pub shown : law.shows value ≡ shown_by journal c

  pub record HubHome (journal : Story B E R) (logs : ℕ → List M)
      (homes : List (mathlib.Core.Option.Option (Place C H))) : Type 0 where
    pub value : H
    pub there : get_elem? homes 0 ≡ some (some (Hub value))
    pub hub : IsHub journal logs value

  -- the cell or the hub of the word k is in this hand
  abbrev pub InHandOf : ℕ → View H E B M R S → Type 0
  InHandOf zero v = (h : H) × (v.hub ≡ Some h)
  InHandOf (suc c) v = Among c (numbers_of v.cells)

  -- some seat has it in hand
  pub record Whose (holder : ℕ → ℕ) (views : List (View H E B M R S)) (k : ℕ) : Type 0 where
    pub seat : ℕ
    pub view : View H E B M R S
    pub at : get_elem? views seat ≡ some view
    pub held : holder k ≡ suc seat
    pub has : InHandOf k view

  -- the pass at `seat` has the log of the seat k, its own or one that it took in
  pub record HasLog (views : List (View H E B M R S)) (seat k : ℕ) : Type 0 where
    pub view : View H E B M R S
    pub at : get_elem? views seat ≡ some view
    pub live : view.live ≡ true
    pub has : Among k (view.number ∷ numbers_of view.others)

  -- some view has seen the whole journal
  pub record HasSeen (views : List (View H E B M R S)) (journal : Story B E R) : Type 0 where
    pub seat : ℕ
    pub view : View H E B M R S
    pub at : get_elem? views seat ≡ some view
    pub tells : view.tells ≡ true
    pub whole : view.seen ≡ journal

  -- the law of the floor that words and views show: a cell is what it shows, and the hub is the base and the entries,
  -- each with its seat
  abbrev pub floor_meaning : Meaning S (B × List (ℕ × E)) E B M R S
  floor_meaning = record {
    some_base = law.some_base;
    base_of = λ hub. hub.0;
    entries = λ hub. entries_in hub.1;
    shows = λ shown. shown;
    shown_after = law.shown_after;
    footprint = law.footprint;
    may_follow = law.may_follow;
    adds = law.adds;
    fits = law.fits;
    is_true = law.is_true;
    keeps = λ hub story seat log. Unit {0};
    outside = law.outside;
    stays = law.stays;
  }

  -- a floor on which nobody holds anything, with an empty journal
  pub record IsOpening (base : B) (f : FloorState S (B × List (ℕ × E))) : Type 0 where
    pub empty : f.hub ≡ (base, [])
    pub shown : Shows floor_meaning base [] f.cells
    pub free : (c : ℕ) (h : Option ℕ) → slice_get f.holders c ≡ Some h → h ≡ None
    pub hub_free : f.hub_holder ≡ None

  -- the words, of which there are `count`, and the views show this floor
  pub record ShowsFloor (count : ℕ) (journal : Story B E R) (holder : ℕ → ℕ)
      (f : FloorState S (B × List (ℕ × E))) : Type 0 where
    pub cells_long : length f.cells + 1 ≡ count
    pub holders_long : length f.holders + 1 ≡ count
    pub cells : (c : ℕ) → suc c < count → slice_get f.cells c ≡ Some (shown_by journal c)
    pub holders : (c : ℕ) → suc c < count → slice_get f.holders c ≡ Some (owner (holder (suc c)))
    pub hub : f.hub ≡ (journal.base, entries_by_seat journal.deeds)
    pub hub_holder : f.hub_holder ≡ owner (holder 0)

  -- the floor that they show is one to which some list of events of the seats has led
  pub record IsFloor (base : B) (count : ℕ) (journal : Story B E R) (holder : ℕ → ℕ) : Type 0 where
    pub first : FloorState S (B × List (ℕ × E))
    pub opening : IsOpening base first
    pub events : List (Event S (B × List (ℕ × E)))
    pub answers : List Bool
    pub entries : List (ℕ × E)
    pub last : FloorState S (B × List (ℕ × E))
    pub runs : Runs floor_meaning first events answers entries last
    -- the actors of the events are the seats in the journal
    pub makers : entries ≡ entries_by_seat journal.deeds
    pub shows : ShowsFloor count journal holder last

  pub record Ruled (base : B) (s : State (Place C H) (View H E B M R S)) : Type 0 where
    pub journal : Story B E R
    -- of each word, 0 where it is free, and else 1 more than the seat that has its cell or the hub
    pub holder : ℕ → ℕ
    -- of each number, 0 where no pass had it, and else 1 more than the seat in whose view its log stands
    pub keeper : ℕ → ℕ
    -- of each number, the log of the seat that has or had it
    pub logs : ℕ → List M
    -- a word is not 0 exactly where one seat has its cell or the hub in hand
    pub wide : length s.words ≡ length s.homes
    pub free : (k : ℕ) → k < length s.words → slice_index s.words k ≡ 0 → holder k ≡ 0
    pub taken : (k : ℕ) → k < length s.words → slice_index s.words k ≢ 0 → (slice_index s.words k ≤ 2) × (0 < holder k)
    pub whose : (k : ℕ) → k < length s.words → slice_index s.words k ≢ 0 → Whose holder s.views k
    pub nowhere : (k : ℕ) → length s.words ≤ k → holder k ≡ 0
    -- words and views show a floor, which the steps move by their events
    pub floor : IsFloor base (length s.words) journal holder
    -- the journal is the longest history seen, it is legal, and a seat's entries and roll items are those of its log.
    -- Each log stands in one pass
    pub same_base : journal.base ≡ base
    pub legal : IsLegalAfter (law.may_follow base) [] (entries_of journal.deeds)
    pub longest : HasSeen s.views journal
    pub each : (j : ℕ) (v : View H E B M R S) → get_elem? s.views j ≡ some v → Fits journal holder keeper logs j v
    pub kept : (k seat : ℕ) → keeper k ≡ suc seat → HasLog s.views seat k
    pub unkept : (k : ℕ) → keeper k ≡ 0 → logs k ≡ []
    pub beyond : (k : ℕ) → length s.views ≤ k → keeper k ≡ 0
    pub pairs : (k : ℕ) → Pairs law.adds law.fits (logs k) (deeds_by k journal.deeds)
    -- the hub at home holds the journal, and a cell at home shows what the law gives after it
    pub hub_home : 0 < length s.words → slice_index s.words 0 ≡ 0 → HubHome journal logs s.homes
    pub home : (c : ℕ) → suc c < length s.words → slice_index s.words (suc c) ≡ 0 → CellHome journal s.homes c
    -- each mark is true
    pub marks : (k : ℕ) → AllTrue (λ m before. law.is_true m journal k before) [] (logs k)
