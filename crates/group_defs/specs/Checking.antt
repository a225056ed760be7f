-- Which group can't be defined, and the definition of one that can (QSRV manual, "Group PV definitions").
use Rattle.std.specs.Prelude.{ℕ, Bool, false, not, ◌&&◌, ◌||◌, ◌==◌, List, [], ◌∷◌, length, take, drop}
use Rattle.std.specs.Prelude.{map, Option, None, Some, Result, Ok, Err}
use Rattle.std.specs.Prelude.{is_some, codes, nat_lt, if◌then◌else◌}
use Rattle.std.specs.List.{list_any, enumerate_from}
use Rattle.std.specs.Str.{bytes_eq}
use Rattle.rec_kinds.specs.declared.record_text.RecText.{RecText}
use Rattle.group_defs.specs.Told.{◌>>=◌, each}
use Rattle.group_defs.specs.Joined.{Joined}
use Rattle.group_defs.specs.Joining.{join_texts}
use Rattle.group_defs.specs.Statements.{Groups, statements, stated}
use Rattle.group_defs.specs.Triggers.{trigger_of, is_known, numbers_in}
use Rattle.group_defs.specs.declared.def.GroupDef.{GroupDef}
use Rattle.group_defs.specs.declared.def.MemberDef.{MemberDef}
use Rattle.group_defs.specs.declared.said.MemberText.{MemberText}
use Rattle.group_defs.specs.declared.listed.Member.{Member}
use Rattle.group_defs.specs.declared.listed.Group.{Group}
use Rattle.group_defs.specs.declared.fault.GroupFault.{GroupFault}
use Rattle.group_defs.specs.declared.fault.GroupFault.TheVariants.{UnknownTrigger, NameTaken, TooMany}

-- the groups that the texts state, each with its members in the order of their names
abbrev pub listed_members : List (List ℕ × MemberText) → List Member
listed_members ms = map (λ m. record { name = m.0; text = m.1 }) ms

abbrev pub listed_group : List ℕ × Joined → Group
listed_group e =
    record {
      name = e.0;
      id = e.1.id;
      atomic = e.1.atomic;
      members = listed_members e.1.members;
    }

abbrev pub listed : Groups → List Group
listed groups = map listed_group groups

abbrev pub names_of : List Member → List (List ℕ)
names_of ms = map (λ m. m.name) ms

-- whether a member's trigger names no member
abbrev pub is_lost : List (List ℕ) → Option (List ℕ) → Bool
is_lost names None = false
is_lost names (Some text) = not (is_known names (trigger_of text))

abbrev pub has_lost : List Member → Bool
has_lost ms = list_any (λ m. is_lost (names_of ms) m.text.trigger) ms

-- whether this name is a record's, or its `.VAL` or `.DESC`
abbrev pub is_ending : List ℕ → Bool
is_ending rest = length rest == 0 || bytes_eq rest (codes ".VAL") || bytes_eq rest (codes ".DESC")

abbrev pub is_named : List ℕ → List ℕ → Bool
is_named name of = bytes_eq (take (length of) name) of && is_ending (drop (length of) name)

abbrev pub is_taken : List RecText → List ℕ → Bool
is_taken texts name = list_any (λ t. is_named name t.name) texts

-- the first fault of a group that has this many before it, among this many
unfoldable pub fault_of : List RecText → ℕ → ℕ → Group → Result (Unit {0}) GroupFault
fault_of texts total before g =
    if has_lost g.members then Err (UnknownTrigger g.name)
    else if is_taken texts g.name then Err (NameTaken g.name)
    else if nat_lt 1023 before then Err (TooMany total)
    else if nat_lt 256 (length g.members) then Err (TooMany (length g.members))
    else Ok tt

-- the first fault of groups, one after another
abbrev pub fault_from : List RecText → List Group → Result (Unit {0}) GroupFault
fault_from texts groups = each (λ _ g. fault_of texts (length groups) g.0 g.1) tt (enumerate_from 0 groups)

-- Where no member has a trigger, each triggers itself; else one without triggers none.
abbrev pub has_trigger : List Member → Bool
has_trigger ms = list_any (λ m. is_some m.text.trigger) ms

abbrev pub triggered : List (List ℕ) → Bool → ℕ → Option (List ℕ) → List ℕ
triggered names some number None = if some then [] else number ∷ []
triggered names some number (Some text) = numbers_in names (trigger_of text)

abbrev pub member_def : List (List ℕ) → Bool → ℕ → Member → MemberDef
member_def names some number m =
    record {
      name = m.name;
      kind = m.text.kind;
      rec = m.text.rec;
      id = m.text.id;
      order = m.text.order;
      trigger = triggered names some number m.text.trigger;
    }

abbrev pub member_defs : List (List ℕ) → Bool → List Member → List MemberDef
member_defs names some ms = map (λ m. member_def names some m.0 m.1) (enumerate_from 0 ms)

abbrev pub group_def : Group → GroupDef
group_def g =
    record {
      name = g.name;
      id = g.id;
      atomic = g.atomic;
      members = member_defs (names_of g.members) (has_trigger g.members) g.members;
    }

-- the definitions that statements of texts make, or the first fault of a group
abbrev pub checked : List RecText → Groups → Result (List GroupDef) GroupFault
checked texts groups = fault_from texts (listed groups) >>= λ _. Ok (map group_def (listed groups))

-- the definitions that the texts of records state, or their first fault
unfoldable pub defined : List RecText → Result (List GroupDef) GroupFault
defined texts = statements texts >>= λ ss. checked texts (stated ss)

-- the same, with the groups joined in place
unfoldable pub defined_in_place : List RecText → Result (List GroupDef) GroupFault
defined_in_place texts = join_texts texts >>= λ groups. checked texts groups
