-- What holds of all histories.
use Rattle.std.specs.Prelude.{◌≡◌, ◌≢◌, ◌↔◌, ◌≤◌, ℕ, List, [], ◌++◌, length, take, Some, slice_get}
use Rattle.histories.specs.declared.story.Story.{Story}
use Rattle.histories.specs.declared.story.Deed.{Deed}
use Rattle.histories.specs.History.{entries_of, roll_of, entries_by_seat, roll_by_seat, deeds_by, tagged, IsPrefixOf, Begins, AllTrue, IsLegalAfter}

pub record GoOnAlike (B E R : Type 0) : Type 0 where
  pub itself : (h : Story B E R) → Begins h h
  pub further : (h k l : Story B E R) → Begins h k → Begins k l → Begins h l
  -- of two beginnings of one history the shorter begins the longer
  pub shorter : (h k l : Story B E R) → Begins h l → Begins k l → length h.deeds ≤ length k.deeds → Begins h k
  pub entries : (h k : Story B E R) → Begins h k → IsPrefixOf (entries_of h.deeds) (entries_of k.deeds)
  pub roll : (h k : Story B E R) → Begins h k → IsPrefixOf (roll_of h.deeds) (roll_of k.deeds)
  pub made : (h k : Story B E R) → Begins h k → IsPrefixOf (entries_by_seat h.deeds) (entries_by_seat k.deeds)
  pub held : (h k : Story B E R) → Begins h k → IsPrefixOf (roll_by_seat h.deeds) (roll_by_seat k.deeds)

abbrev pub OwnDeedsAdd : Type 0 → Type 0 → Type 0
OwnDeedsAdd E R = (seat : ℕ) (ds : List (ℕ × Deed E R)) (more : List (Deed E R))
    → deeds_by seat (ds ++ tagged seat more) ≡ deeds_by seat ds ++ more

abbrev pub OthersDeedsStay : Type 0 → Type 0 → Type 0
OthersDeedsStay E R = (seat other : ℕ) (ds : List (ℕ × Deed E R)) (more : List (Deed E R)) → seat ≢ other
    → deeds_by other (ds ++ tagged seat more) ≡ deeds_by other ds

abbrev pub TruthAppends : {M : Type 0} → (M → List M → Type 0) → Type 0
TruthAppends {M} is_true = (before xs ys : List M)
    → AllTrue is_true before (xs ++ ys) ↔ (AllTrue is_true before xs × AllTrue is_true (before ++ xs) ys)

abbrev pub LegalityAppends : {E : Type 0} → (List E → E → Type 0) → Type 0
LegalityAppends {E} may_follow = (past xs ys : List E)
    → IsLegalAfter may_follow past (xs ++ ys) ↔
    (IsLegalAfter may_follow past xs × IsLegalAfter may_follow (past ++ xs) ys)

-- a list is legal exactly where each of its entries may follow those before it
abbrev pub IsLegalAtEachPlace : {E : Type 0} → (List E → E → Type 0) → Type 0
IsLegalAtEachPlace {E} may_follow = (es : List E)
    → IsLegalAfter may_follow [] es ↔ ((n : ℕ) (e : E) → slice_get es n ≡ Some e → may_follow (take n es) e)
