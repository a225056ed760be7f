-- What the texts of records say of groups, one statement after another, and the groups that the statements make (QSRV
-- manual, "Group PV definitions").
use Rattle.std.specs.Prelude.{ℕ, Bool, false, List, [], ◌∷◌, ◌++◌, map, filter, fold, Result, Ok, Err}
use Rattle.std.specs.Prelude.{codes, is_some, if◌then◌else◌}
use Rattle.std.specs.BTreeMap.{insert_entry, is_at}
use Rattle.std.specs.Map.{lookup}
use Rattle.std.specs.List.{flat_map, enumerate_from}
use Rattle.std.specs.Str.{bytes_eq}
use Rattle.json.specs.Json.{Json, Members}
use Rattle.rec_kinds.specs.declared.record_text.Info.{Info}
use Rattle.rec_kinds.specs.declared.record_text.RecText.{RecText}
use Rattle.group_defs.specs.Told.{Told, ◌>>=◌, each}
use Rattle.group_defs.specs.BareKeys.{with_quoted_keys}
use Rattle.group_defs.specs.Keys.{said_by}
use Rattle.group_defs.specs.Order.{text_cmp, Place, in_order, json_of, groups_of}
use Rattle.group_defs.specs.Joined.{Joined, blank}
use Rattle.group_defs.specs.declared.fault.Stop.{Stop}
use Rattle.group_defs.specs.declared.fault.Stop.TheVariants as stops
use Rattle.group_defs.specs.declared.fault.GroupFault.{GroupFault}
use Rattle.group_defs.specs.declared.fault.GroupFault.TheVariants as faults
use Rattle.group_defs.specs.declared.said.Said.{Said}
use Rattle.group_defs.specs.declared.said.Said.TheVariants.{Id, Atomic, Member}

-- what is said of a group: that there is one, or what a key says
pub data Word : Type 0 where
  opened : Word
  says : List ℕ → Said → Word

pub record Statement : Type 0 where
  pub group : List ℕ  -- its name
  pub word : Word

-- ---- what a text says, in the order in which it is read

-- a statement, or why there is none
abbrev pub Line : Type 0
Line = Told Statement

abbrev pub key_line : ℕ → List ℕ → Place × Json → Line
key_line number group k = said_by number k.0.0 k.1 >>= λ said. Ok (record { group = group; word = says k.0.0 said })

-- the object of a group says that there is one, and then what each of its keys says
abbrev pub group_lines : ℕ → List ℕ × Members → List Line
group_lines number e = Ok (record { group = e.0; word = opened }) ∷ map (key_line number e.0) (in_order e.1)

abbrev pub lines_of : ℕ → Told (List (List ℕ × Members)) → List Line
lines_of number (Err stop) = Err stop ∷ []
lines_of number (Ok es) = flat_map (group_lines number) es

-- a text is read once its bare keys are in quotes
abbrev pub text_lines : ℕ → List ℕ → List Line
text_lines number text = lines_of number (json_of (with_quoted_keys text) >>= groups_of)

-- of the infos of a record, `Q:group` alone speaks of groups
abbrev pub info_lines : ℕ → Info → List Line
info_lines number i = if bytes_eq i.name (codes "Q:group") then text_lines number i.text else []

-- ---- what statements make of a group

-- a later id or flag stands in the place of an earlier one; members stand in the order of the bytes of their names
abbrev pub spoken : Joined → Word → Joined
spoken g opened = g
spoken g (says key (Id text)) = record g { id = text }
spoken g (says key (Atomic flag)) = record g { atomic = flag }
spoken g (says key (Member m)) = record g { members = insert_entry text_cmp g.members key m }

-- the statements about the group of this name
abbrev pub about : List ℕ → List Statement → List Statement
about name ss = filter (λ s. bytes_eq s.group name) ss

-- the group of this name, as all that is said of it makes it
abbrev pub joined_of : List ℕ → List Statement → Joined
joined_of name ss = fold (λ g s. spoken g s.word) blank (about name ss)

-- names, each once, in the order in which they come first
abbrev pub with_name : List (List ℕ) → List ℕ → List (List ℕ)
with_name [] name = name ∷ []
with_name (n ∷ ns) name = if bytes_eq name n then n ∷ ns else n ∷ with_name ns name

abbrev pub named : List Statement → List (List ℕ)
named ss = fold (λ names s. with_name names s.group) [] ss

-- groups by their names, in the order in which they are first named
abbrev pub Groups : Type 0
Groups = List (List ℕ × Joined)

abbrev pub stated : List Statement → Groups
stated ss = map (λ name. (name, joined_of name ss)) (named ss)

-- ---- the first fault

-- whether the group has a member of this name
abbrev pub has_member : Joined → List ℕ → Bool
has_member g name = is_some (lookup (is_at (text_cmp name)) g.members)

-- a member that its group, as the statements before make it, has already
abbrev pub says_again : Joined → Word → Bool
says_again g opened = false
says_again g (says key (Id text)) = false
says_again g (says key (Atomic flag)) = false
says_again g (says key (Member m)) = has_member g key

abbrev pub repeats : List Statement → Statement → Bool
repeats before s = says_again (joined_of s.group before) s.word

-- the statements with those of a line behind them
abbrev pub with_line : List Statement → Line → Told (List Statement)
with_line before (Err stop) = Err stop
with_line before (Ok s) = if repeats before s then Err stops.SameMember else Ok (before ++ s ∷ [])

-- the fault that a record of this name has
abbrev pub fault_in : List ℕ → Stop → GroupFault
fault_in name stops.BadJson = faults.BadJson name
fault_in name stops.UnknownKey = faults.UnknownKey name
fault_in name stops.SameMember = faults.SameMember name
fault_in name stops.BadMember = faults.BadMember name
fault_in name stops.NoMemory = faults.NoMemory

abbrev pub in_record : {A : Type 0} → List ℕ → Told A → Result A GroupFault
in_record name (Ok x) = Ok x
in_record name (Err stop) = Err (fault_in name stop)

-- the statements with those of a record and its number behind them
abbrev pub with_record : List Statement → ℕ × RecText → Result (List Statement) GroupFault
with_record before t = in_record t.1.name (each with_line before (flat_map (info_lines t.0) t.1.infos))

-- all statements of the texts, or their first fault
abbrev pub statements : List RecText → Result (List Statement) GroupFault
statements texts = each with_record [] (enumerate_from 0 texts)
