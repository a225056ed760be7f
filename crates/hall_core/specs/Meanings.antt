-- What a law says of entries, cells and marks.
use Rattle.std.specs.Prelude.{◌≡◌, ℕ, List, [], ◌∷◌, ◌++◌, ◌<◌, length, slice_index}
use Rattle.histories.specs.declared.story.Story.{Story}
use Rattle.histories.specs.declared.story.Deed.{Deed}
use Rattle.histories.specs.declared.story.Deed.TheVariants.{Entry, Item}
use Rattle.histories.specs.History.{Begins}

-- the number is among these
abbrev pub Among : ℕ → List ℕ → Type 0
Among c xs = (k : ℕ) × (k < length xs) × (slice_index xs k ≡ c)

-- no number stands in the list twice
abbrev pub AreDistinct : List ℕ → Type 0
AreDistinct [] = Unit {0}
AreDistinct (x ∷ xs) = ¬ (Among x xs) × AreDistinct xs

-- what a mark adds: nothing, an entry, or this item of the roll
pub data Adds (R : Type 0) : Type 0 where
  adds_nothing : Adds R
  adds_entry : Adds R
  adds_item : R → Adds R

-- what a law says: of the ground and the entries that a hub holds, of what cells show, of entries, of marks, and of
-- what a hub keeps of a seat
pub record Meaning (C H E B M R S : Type 0) : Type 1 where
  -- for the view of a seat that is spent
  pub some_base : B
  pub base_of : H → B
  pub entries : H → List E
  pub shows : C → S
  -- what a cell shows after the entries
  pub shown_after : B → List E → ℕ → S
  pub footprint : E → List ℕ
  -- the entry is legal after these
  pub may_follow : B → List E → E → Type 0
  -- what the mark adds to the history, and which entry fits it
  pub adds : M → Adds R
  pub fits : M → E → Type 0
  -- of the history, the seat and the seat's marks before this one
  pub is_true : M → Story B E R → ℕ → List M → Type 0
  -- what the hub keeps of a seat with this log
  pub keeps : H → Story B E R → ℕ → List M → Type 0
  -- after a legal entry each cell outside its footprint shows what it showed before it
  pub outside : (g : B) (es : List E) (e : E) → may_follow g es e → (c : ℕ) → ¬ (Among c (footprint e))
      → shown_after g (es ++ e ∷ []) c ≡ shown_after g es c
  -- a mark that is true stays true
  pub stays : (m : M) (h k : Story B E R) (seat : ℕ) (before : List M) → Begins h k → is_true m h seat before
      → is_true m k seat before

-- the mark that adds this pairs with the first deed, and `more` with the others
abbrev pub PairsBy : {E R : Type 0} → Adds R → (E → Type 0) → (List (Deed E R) → Type 0) → List (Deed E R) → Type 0
PairsBy adds_nothing fit more ds = more ds
PairsBy adds_entry fit more [] = ⊥
PairsBy adds_entry fit more (Entry e ∷ ds) = fit e × more ds
PairsBy adds_entry fit more (Item i ∷ ds) = ⊥
PairsBy (adds_item r) fit more [] = ⊥
PairsBy (adds_item r) fit more (Entry e ∷ ds) = ⊥
PairsBy (adds_item r) fit more (Item i ∷ ds) = (i ≡ r) × more ds

-- the marks that add something pair with these deeds, in order
abbrev pub Pairs : {M E R : Type 0} → (M → Adds R) → (M → E → Type 0) → List M → List (Deed E R) → Type 0
Pairs adds fits [] [] = Unit {0}
Pairs adds fits [] (d ∷ ds) = ⊥
Pairs adds fits (m ∷ ms) ds = PairsBy (adds m) (fits m) (Pairs adds fits ms) ds
