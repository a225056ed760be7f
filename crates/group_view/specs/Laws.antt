-- What a group's value depends on.
use Rattle.std.specs.Prelude.{◌≡◌, ℕ, true, List, Some, slice_get, MatchOption}
use Rattle.std.specs.FinSet.{FinSet, contains}
use Rattle.std.specs.List.{AllByRecursion}
use Rattle.std.specs.Ordering.{nat_cmp}
use Rattle.pvd_value.specs.Data.{Data}
use Rattle.pvd_value.specs.Fits.{fits_of}
use Rattle.pvd_value.specs.Leaves.{leaf_at}
use Rattle.pvd_value.specs.Merge.{merged}
use Rattle.rec_kinds.specs.Configs.{Config}
use Rattle.rec_kinds.specs.Validity.{IsValid}
use Rattle.rec_kinds.specs.declared.state.RecState.{RecState}
use Rattle.group_view.specs.Groups.{GroupData, IsOver, AreReady}
use Rattle.group_view.specs.Leaves.{records_of, triggered, footprint}
use Rattle.group_view.specs.Types.{group_tree}
use Rattle.group_view.specs.Views.{group_shown, IsReadyFor}

-- these records have the same states in both
abbrev pub Agree : List ℕ → List RecState → List RecState → Type 0
Agree recs a b = AllByRecursion (λ rec. slice_get a rec ≡ slice_get b rec) recs

-- The value depends on the group's records alone,
abbrev pub ReadsRecords : GroupData → Type 0
ReadsRecords g = (a b : List RecState) → Agree (records_of g.members) a b → group_shown g a ≡ group_shown g b

-- and, where all records have states that they may be in, the leaves that a record triggers on its footprint alone.
abbrev pub ReadsFootprint : GroupData → ℕ → Type 0
ReadsFootprint g rec =
    (a b : List RecState) → AreReady a g → AreReady b g → Agree (footprint g rec) a b
    → (k : ℕ) → contains (triggered g rec) k ≡ true
    → leaf_at k (group_tree g) (group_shown g a) ≡ leaf_at k (group_tree g) (group_shown g b)

-- a mask has none but these numbers
abbrev pub IsWithin : FinSet nat_cmp → FinSet nat_cmp → Type 0
IsWithin mask all = (k : ℕ) → contains mask k ≡ true → contains all k ≡ true

-- A part within the leaves that a record triggers depends on the states of its footprint alone, over whatever value it is
-- taken and whatever states other records have,
abbrev pub PartsReadFootprint : GroupData → ℕ → Type 0
PartsReadFootprint g rec =
    (mask : FinSet nat_cmp) (a b : List RecState) (old : Data) → IsWithin mask (triggered g rec) → Agree (footprint g rec) a b
    → fits_of 16 old (group_tree g) ≡ true
    → merged (contains mask) 0 (group_tree g) old (group_shown g a) ≡ merged (contains mask) 0 (group_tree g) old (group_shown g b)

-- these records have states that they may be in, where they are so configured
abbrev pub AreConfiguredAmong : List ℕ → List Config → List RecState → Type 0
AreConfiguredAmong recs configs states =
    AllByRecursion (λ rec. (config : Config) → slice_get configs rec ≡ Some config → MatchOption (slice_get states rec) ⊥ (IsValid config)) recs

-- and it can be viewed where the records of the footprint have states that they may be in.
abbrev pub FootprintMakesReady : GroupData → ℕ → Type 0
FootprintMakesReady g rec =
    (mask : FinSet nat_cmp) (configs : List Config) (states : List RecState) → IsOver configs g → IsWithin mask (triggered g rec)
    → AreConfiguredAmong (footprint g rec) configs states → IsReadyFor mask states g
