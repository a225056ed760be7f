-- What a group shows, as a function of the states of all records.
use Rattle.std.specs.Prelude.{◌≡◌, ◌≤◌, ◌<◌, ◌+◌, ⊤, Bool, true, false, ℕ, List, length, Option, None, Some, slice_get, nat_lt}
use Rattle.std.specs.FinSet.{FinSet, contains}
use Rattle.std.specs.Ordering.{nat_cmp}
use Rattle.pvd_type.specs.Numbers.{numbered}
use Rattle.pvd_type.specs.Tree.{Tree, Fields}
use Rattle.pvd_value.specs.Blank.{blank_of}
use Rattle.pvd_value.specs.Data.{Data, members, Row, end, more}
use Rattle.pvd_value.specs.Fits.{fits_of}
use Rattle.pvd_value.specs.Merge.{merged, merged_row}
use Rattle.rec_kinds.specs.declared.state.RecState.{RecState}
use Rattle.group_view.specs.Groups.{GroupData, HasState}
use Rattle.group_view.specs.Pieces.{piece_shown}
use Rattle.group_view.specs.Sources.{Source}
use Rattle.group_view.specs.Slots.{Slot, shows, level, Slots, no_slots, slot, structure_of}
use Rattle.group_view.specs.Types.{source_tree, slot_tree, group_tree}

-- a blank value where the record has no state
abbrev pub shown_or_blank : Source → Option RecState → Data
shown_or_blank s (Some state) = piece_shown s.piece s.link.config state
shown_or_blank s None = blank_of (source_tree s)

abbrev pub source_shown : List RecState → Source → Data
source_shown states s = shown_or_blank s (slice_get states s.link.rec)

abbrev mutual
  pub slot_shown : List RecState → Slot → Data
  slot_shown states (shows s) = source_shown states s
  slot_shown states (level id ss) = members (slots_shown states ss)

  pub slots_shown : List RecState → Slots → Row
  slots_shown states no_slots = end
  slots_shown states (slot name s ss) = more (slot_shown states s) (slots_shown states ss)

-- What the group shows where the records have these states,
unfoldable pub group_shown : GroupData → List RecState → Data
group_shown g states = slot_shown states (structure_of g)

-- and the leaves of a mask alone, over the blank value.
abbrev pub part_shown : GroupData → FinSet nat_cmp → List RecState → Data
part_shown g mask states =
    merged (contains mask) 0 (group_tree g) (blank_of (group_tree g)) (group_shown g states)

-- of a type that is numbered from n: a value has the leaves of the mask as the whole has them,
abbrev pub IsPart : FinSet nat_cmp → ℕ → Tree → Data → Data → Type 0
IsPart mask n t part whole =
    (old : Data) → fits_of 16 old t ≡ true → merged (contains mask) n t old part ≡ merged (contains mask) n t old whole

-- and it has the other leaves as an old value has them
abbrev pub IsKept : FinSet nat_cmp → ℕ → Tree → Data → Data → Type 0
IsKept mask n t old new = merged (contains mask) n t old new ≡ new

abbrev pub IsRowKept : FinSet nat_cmp → ℕ → Fields → Row → Row → Type 0
IsRowKept mask n fs old new = merged_row (contains mask) n fs old new ≡ new

-- a number of the mask, among so many from a start on
pub record HasNumber (mask : FinSet nat_cmp) (start count : ℕ) : Type 0 where
  pub number : ℕ
  pub from : start ≤ number
  pub to : number < start + count
  pub marked : contains mask number ≡ true

-- whether there is a number and it is below another
abbrev pub IsBefore : Bool → Option ℕ → ℕ → Type 0
IsBefore b None bound = b ≡ false
IsBefore b (Some n) bound = b ≡ nat_lt n bound

-- Each record that is shown under a number of the mask has a state that it may be in.
abbrev mutual
  pub IsReadyUnder : FinSet nat_cmp → List RecState → ℕ → Slot → Type 0
  IsReadyUnder mask states n (shows s) =
      (k : ℕ) → n ≤ k → k < n + length (numbered (source_tree s)) → contains mask k ≡ true → HasState states s.link
  IsReadyUnder mask states n (level id ss) = AreReadyUnder mask states (n + 1) ss

  pub AreReadyUnder : FinSet nat_cmp → List RecState → ℕ → Slots → Type 0
  AreReadyUnder mask states n no_slots = ⊤
  AreReadyUnder mask states n (slot name s ss) =
      IsReadyUnder mask states n s × AreReadyUnder mask states (n + length (numbered (slot_tree s))) ss

unfoldable pub IsReadyFor : FinSet nat_cmp → List RecState → GroupData → Type 0
IsReadyFor mask states g = IsReadyUnder mask states 0 (structure_of g)
