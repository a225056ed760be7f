-- What is said of histories.
use Rattle.std.specs.Prelude.{◌≡◌, ◌==◌, ℕ, List, [], ◌∷◌, ◌++◌, if◌then◌else◌}
use Rattle.histories.specs.declared.story.Story.{Story}
use Rattle.histories.specs.declared.story.Deed.{Deed}
use Rattle.histories.specs.declared.story.Deed.TheVariants.{Entry, Item}

-- the entries, in order
abbrev pub entries_of : {E R : Type 0} → List (ℕ × Deed E R) → List E
entries_of [] = []
entries_of ((k, Entry e) ∷ ds) = e ∷ entries_of ds
entries_of ((k, Item i) ∷ ds) = entries_of ds

-- the roll, in order
abbrev pub roll_of : {E R : Type 0} → List (ℕ × Deed E R) → List R
roll_of [] = []
roll_of ((k, Entry e) ∷ ds) = roll_of ds
roll_of ((k, Item i) ∷ ds) = i ∷ roll_of ds

-- the entries, each with the seat that made it
abbrev pub entries_by_seat : {E R : Type 0} → List (ℕ × Deed E R) → List (ℕ × E)
entries_by_seat [] = []
entries_by_seat ((k, Entry e) ∷ ds) = (k, e) ∷ entries_by_seat ds
entries_by_seat ((k, Item i) ∷ ds) = entries_by_seat ds

-- the roll, each item with the seat that put it there
abbrev pub roll_by_seat : {E R : Type 0} → List (ℕ × Deed E R) → List (ℕ × R)
roll_by_seat [] = []
roll_by_seat ((k, Entry e) ∷ ds) = roll_by_seat ds
roll_by_seat ((k, Item i) ∷ ds) = (k, i) ∷ roll_by_seat ds

-- what the seat k did, in order
abbrev pub deeds_by : {D : Type 0} → ℕ → List (ℕ × D) → List D
deeds_by k [] = []
deeds_by k (d ∷ ds) = if d.0 == k then d.1 ∷ deeds_by k ds else deeds_by k ds

-- these deeds as those of the seat k
abbrev pub tagged : {D : Type 0} → ℕ → List D → List (ℕ × D)
tagged k [] = []
tagged k (d ∷ ds) = (k, d) ∷ tagged k ds

-- The second list begins with the first.
pub record IsPrefixOf {A : Type 0} (xs ys : List A) : Type 0 where
  pub rest : List A
  pub whole : ys ≡ xs ++ rest

-- The second history begins with the first: they have one base, and what the seats did goes on.
pub record Begins {B E R : Type 0} (h k : Story B E R) : Type 0 where
  pub base : k.base ≡ h.base
  pub deeds : IsPrefixOf h.deeds k.deeds

-- P holds of each element. It computes on the list, which std's All does not
abbrev pub Every : {A : Type 0} → (A → Type 0) → List A → Type 0
Every P [] = Unit {0}
Every P (x ∷ xs) = P x × Every P xs

-- Each mark is true, after the marks before it.
abbrev pub AllTrue : {M : Type 0} → (M → List M → Type 0) → List M → List M → Type 0
AllTrue is_true before [] = Unit {0}
AllTrue is_true before (m ∷ ms) = is_true m before × AllTrue is_true (before ++ m ∷ []) ms

-- Each entry is legal after the entries before it.
abbrev pub IsLegalAfter : {E : Type 0} → (List E → E → Type 0) → List E → List E → Type 0
IsLegalAfter may_follow past [] = Unit {0}
IsLegalAfter may_follow past (e ∷ es) = may_follow past e × IsLegalAfter may_follow (past ++ e ∷ []) es
