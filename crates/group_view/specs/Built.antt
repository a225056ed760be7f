-- What a group keeps beside its definition.
use Rattle.std.specs.Prelude.{◌≡◌, ◌≤◌, ◌==◌, ⊤, ℕ, Bool, List}
use Rattle.std.specs.Prelude.{length, fold, Option, None, Some, option_map, if◌then◌else◌}
use Rattle.std.specs.FinSet.{empty, insert}
use Rattle.std.specs.List.{flat_map, list_any}
use Rattle.pvd_type.specs.Check.{type_fault}
use Rattle.pvd_type.specs.Numbers.{numbered}
use Rattle.pvd_type.specs.Tree.{Tree}
use Rattle.group_defs.specs.declared.fault.GroupFault.{GroupFault}
use Rattle.group_defs.specs.declared.fault.GroupFault.TheVariants as faults
use Rattle.group_view.specs.Faults.{group_fault}
use Rattle.group_view.specs.Groups.{GroupData}
use Rattle.group_view.specs.Leaves.{triggered_by, triggered, records_read, footprint, records_of}
use Rattle.group_view.specs.Puts.{writers}
use Rattle.group_view.specs.Slots.{Slots, level, structure_of}
use Rattle.group_view.specs.Types.{group_tree}
use Rattle.group_view.specs.declared.member.Member.{Member}
use Rattle.group_view.specs.declared.reach.Reach.{Reach}
use Rattle.group_view.specs.declared.writer.Writer.{Writer}

-- what a record triggers, where the members show these leaves
abbrev pub reach_by : (ℕ → List ℕ) → List Member → ℕ → Reach
reach_by leaves ms rec =
    record {
      triggered = fold insert empty (flat_map leaves (triggered_by ms rec));
      footprint = records_read ms (triggered_by ms rec);
    }

abbrev pub reach_of : GroupData → ℕ → Reach
reach_of g rec = record { triggered = triggered g rec; footprint = footprint g rec }

-- Of each of these records what it triggers, and nothing of others.
abbrev pub is_in : List ℕ → ℕ → Bool
is_in recs rec = list_any (λ r. r == rec) recs

abbrev pub Reaches : List ℕ → (ℕ → Reach) → (ℕ → Option Reach) → Type 0
Reaches recs reach reached = (rec : ℕ) → reached rec ≡ (if is_in recs rec then Some (reach rec) else None)

-- what a check of a group's structure that answers this fault says; want of memory is free
abbrev pub IsShapeFault : Tree → GroupFault → Type 0
IsShapeFault t faults.NoMemory = ⊤
IsShapeFault t fault = option_map faults.Shape (type_fault t) ≡ Some fault

-- The type, the structure, the records, what each of these triggers, and the writable members are the group's, which has
-- at most 256 members.
pub record IsBuilt (g : GroupData) (ty : Tree) (slots : Slots) (records : List ℕ) (reached : ℕ → Option Reach)
    (writable : List Writer) : Type 0 where
  pub tree : ty ≡ group_tree g
  pub few : length (numbered ty) ≤ 4096
  pub structure : level g.id slots ≡ structure_of g
  pub members : records ≡ records_of g.members
  pub reaching : Reaches records (reach_of g) reached
  pub writers_are : writable ≡ writers g
  pub faultless : group_fault g ≡ None
  pub members_few : length g.members ≤ 256
