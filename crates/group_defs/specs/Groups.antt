-- Maps of groups, and what calls on them give.
use Rattle.std.specs.Prelude.{◌≡◌, map, string_bytes, Result, Ok, Err}
use Rattle.std.specs.declared.string.String.{String}
use Rattle.indexmap.specs.IndexMap.{IndexMap}
use Rattle.group_defs.specs.Joined.{Joined}
use Rattle.group_defs.specs.Statements.{Groups}
use Rattle.group_defs.specs.declared.fault.GroupFault.{GroupFault}
use Rattle.group_defs.specs.declared.fault.GroupFault.TheVariants.{NoMemory}

-- the groups of a map, in its order
abbrev pub groups_seen : {Y S : Type 0} → IndexMap (String Y) Joined S → Groups
groups_seen m = map (λ e. (string_bytes e.0, e.1)) m.entries

-- the fault is this one; want of memory is free
abbrev pub FaultsAs : GroupFault → GroupFault → Type 0
FaultsAs NoMemory fault = Unit {0}
FaultsAs found fault = fault ≡ found

abbrev pub FailsAs : {Y : Type 0} → GroupFault → Result Y GroupFault → Type 0
FailsAs NoMemory told = Unit {0}
FailsAs fault told = told ≡ Err fault

-- What a function returned, seen by view, is what reading gives; want of memory is free.
abbrev pub Answers : {X Y : Type 0} → (X → Y) → Result X GroupFault → Result Y GroupFault → Type 0
Answers view (Ok x) told = told ≡ Ok (view x)
Answers view (Err fault) told = FailsAs fault told
