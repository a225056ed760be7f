-- A group as it is served: its definition, and beside each member the record that it is about.
use Rattle.std.specs.Prelude.{ℕ, Bool, List, map, Option, Some, slice_get, option_map, ⊤, ◌≡◌, MatchOption}
use Rattle.std.specs.Option.{option_and_then}
use Rattle.std.specs.List.{AllByRecursion}
use Rattle.rec_kinds.specs.Configs.{Config}
use Rattle.rec_kinds.specs.Validity.{IsValid}
use Rattle.rec_kinds.specs.declared.state.RecState.{RecState}
use Rattle.group_defs.specs.declared.def.GroupDef.{GroupDef}
use Rattle.group_defs.specs.declared.def.MemberDef.{MemberDef}
use Rattle.group_view.specs.Links.{Link}
use Rattle.group_view.specs.declared.member.Member.{Member}

-- A group, each member with the record that it is about.
pub record GroupData : Type 0 where
  pub name : List ℕ
  pub id : List ℕ
  pub atomic : Bool
  pub members : List Member

abbrev pub link_of : List Config → ℕ → Option Link
link_of configs rec = option_map (λ config. record { rec = rec; config = config }) (slice_get configs rec)

abbrev pub member_of : List Config → MemberDef → Member
member_of configs m = record { def = m; link = option_and_then (link_of configs) m.rec }

-- The group that a definition is, over the records that are so configured.
abbrev pub group_of : List Config → GroupDef → GroupData
group_of configs g =
    record { name = g.name; id = g.id; atomic = g.atomic; members = map (member_of configs) g.members }

-- The group's records are among those that are so configured.
abbrev pub IsLinkOf : List Config → Link → Type 0
IsLinkOf configs l = slice_get configs l.rec ≡ Some l.config

abbrev pub IsOver : List Config → GroupData → Type 0
IsOver configs g = AllByRecursion (λ m. MatchOption m.link ⊤ (IsLinkOf configs)) g.members

-- The member's record has a state that it may be in.
abbrev pub HasState : List RecState → Link → Type 0
HasState states l = MatchOption (slice_get states l.rec) ⊥ (IsValid l.config)

abbrev pub IsReady : List RecState → Member → Type 0
IsReady states m = MatchOption m.link ⊤ (HasState states)

abbrev pub AreReady : List RecState → GroupData → Type 0
AreReady states g = AllByRecursion (IsReady states) g.members

-- Each configured record has a state that it may be in.
abbrev pub AreConfigured : List Config → List RecState → Type 0
AreConfigured configs states =
    (n : ℕ) (config : Config) → slice_get configs n ≡ Some config → MatchOption (slice_get states n) ⊥ (IsValid config)
