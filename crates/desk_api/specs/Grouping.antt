-- The groups of a site, by their names and by the records that they are about.
use Rattle.std.specs.Prelude.{◌≡◌, ℕ, ◌<◌, ◌==◌, ◌||◌, ◌&&◌, Bool, false, List, [], Option, None, Some, Err}
use Rattle.std.specs.Prelude.{slice_get, bytes_eq, ⊤}
use Rattle.std.specs.List.{AllByRecursion, list_any}
use Rattle.rec_kinds.specs.Configs.{Config}
use Rattle.rec_kinds.specs.declared.record_text.RecText.{RecText}
use Rattle.group_defs.specs.declared.def.GroupDef.{GroupDef}
use Rattle.group_defs.specs.declared.fault.GroupFault.{GroupFault}
use Rattle.group_defs.specs.declared.fault.GroupFault.TheVariants as faults
use Rattle.group_view.specs.Groups.{GroupData}
use Rattle.group_view.specs.Leaves.{footprint, records_of}
use Rattle.desk_api.specs.Loading.{built_over, groups_of}
use Rattle.desk_api.specs.declared.fault.SiteFault.{SiteFault}
use Rattle.desk_api.specs.declared.fault.SiteFault.TheVariants.{Load, Build, Group, NoMemory}

-- the fault of a site whose groups have this fault
abbrev pub ungrouped : GroupFault → SiteFault
ungrouped faults.NoMemory = NoMemory
ungrouped fault = Group fault

-- why groups of these definitions can't be built; want of memory is free
abbrev pub IsFaultOver : List Config → List GroupDef → SiteFault → Type 0
IsFaultOver configs defs (Group faults.NoMemory) = ⊥
IsFaultOver configs defs (Group fault) = built_over configs defs ≡ Err fault
IsFaultOver configs defs (Load fault) = ⊥
IsFaultOver configs defs (Build name fault) = ⊥
IsFaultOver configs defs NoMemory = ⊤

-- why these records have no groups; want of memory is free
abbrev pub IsFaultOfGroups : List RecText → SiteFault → Type 0
IsFaultOfGroups records (Group faults.NoMemory) = ⊥
IsFaultOfGroups records (Group fault) = groups_of records ≡ Err fault
IsFaultOfGroups records (Load fault) = ⊥
IsFaultOfGroups records (Build name fault) = ⊥
IsFaultOfGroups records NoMemory = ⊤

-- whether a number is among these
abbrev pub is_among : List ℕ → ℕ → Bool
is_among numbers n = list_any (λ m. m == n) numbers

-- whether a name is one of these
abbrev pub is_one_of : List (List ℕ) → List ℕ → Bool
is_one_of names name = list_any (bytes_eq name) names

-- the numbers of groups that are noted for a record
abbrev pub noted : Option (List ℕ) → List ℕ
noted None = []
noted (Some numbers) = numbers

abbrev pub is_noted : List (List ℕ) → ℕ → ℕ → Bool
is_noted index rec n = is_among (noted (slice_get index rec)) n

-- whether a record is one of a group's
abbrev pub has_record : Option GroupData → ℕ → Bool
has_record None rec = false
has_record (Some group) rec = is_among (records_of group.members) rec

-- The numbers that are noted for a record are those of the groups that are about it.
abbrev pub AreNoted : List (List ℕ) → List GroupData → Type 0
AreNoted index groups = (rec n : ℕ) → is_noted index rec n ≡ has_record (slice_get groups n) rec

-- Between two lists of notes the group of this number was noted for these records.
abbrev pub IsNotedFor : List ℕ → ℕ → List (List ℕ) → List (List ℕ) → Type 0
IsNotedFor recs number old new =
    (rec n : ℕ) → is_noted new rec n ≡ (is_noted old rec n || (is_among recs rec && number == n))

-- the records of each group are below a count
abbrev pub AreBelow : ℕ → List GroupData → Type 0
AreBelow count groups = AllByRecursion (λ group. AllByRecursion (λ rec. rec < count) (records_of group.members)) groups

-- Between two lists of numbers those were added that groups read for the leaves which they post with this record.
abbrev pub AreRead : List GroupData → ℕ → List ℕ → List ℕ → Type 0
AreRead groups rec old new =
    (n : ℕ) → is_among new n ≡ (is_among old n || list_any (λ group. is_among (footprint group rec) n) groups)
