-- Groups joined in place, text by text, as the code keeps them. That these are the groups of `Statements` is proved.
use Rattle.std.specs.Prelude.{ℕ, List, [], Result, Ok, Err}
use Rattle.std.specs.Prelude.{codes, unwrap_or}
use Rattle.std.specs.Prelude.{if◌then◌else◌}
use Rattle.std.specs.BTreeMap.{insert_entry}
use Rattle.std.specs.Map.{lookup}
use Rattle.std.specs.List.{enumerate_from}
use Rattle.std.specs.Str.{bytes_eq}
use Rattle.indexmap.specs.IndexMap as index
use Rattle.json.specs.Json.{Json, Members}
use Rattle.rec_kinds.specs.declared.record_text.Info.{Info}
use Rattle.rec_kinds.specs.declared.record_text.RecText.{RecText}
use Rattle.group_defs.specs.Told.{Told, ◌>>=◌, each}
use Rattle.group_defs.specs.Statements.{Groups, has_member, in_record}
use Rattle.group_defs.specs.BareKeys.{with_quoted_keys}
use Rattle.group_defs.specs.Keys.{said_by}
use Rattle.group_defs.specs.Order.{text_cmp, Place, in_order, json_of, groups_of}
use Rattle.group_defs.specs.Joined.{Joined, blank}
use Rattle.group_defs.specs.declared.fault.Stop.TheVariants as stops
use Rattle.group_defs.specs.declared.fault.GroupFault.{GroupFault}
use Rattle.group_defs.specs.declared.said.Said.{Said}
use Rattle.group_defs.specs.declared.said.Said.TheVariants.{Id, Atomic, Member}

-- the group with what a key says besides: a later id or flag stands in the place of an earlier one
abbrev pub joined_with : Joined → List ℕ → Said → Told Joined
joined_with g key (Id text) = Ok (record g { id = text })
joined_with g key (Atomic flag) = Ok (record g { atomic = flag })
joined_with g key (Member m) =
    if has_member g key then Err stops.SameMember
    else Ok (record g { members = insert_entry text_cmp g.members key m })

abbrev pub join_key : ℕ → Joined → List ℕ → Json → Told Joined
join_key number g key j = said_by number key j >>= λ said. joined_with g key said

-- the group with all that these keys say
abbrev pub join_keys : ℕ → Joined → List (Place × Json) → Told Joined
join_keys number = each (λ g e. join_key number g e.0.0 e.1)

abbrev pub known : Groups → List ℕ → Joined
known groups name = unwrap_or (lookup (bytes_eq name) groups) blank

-- the groups with this one in its place, which is the last for a new name
abbrev pub with_group : Groups → List ℕ → Joined → Groups
with_group groups name g = index.insert_entry bytes_eq groups name g

unfoldable pub join_group : ℕ → Groups → List ℕ × Members → Told Groups
join_group number groups e =
    join_keys number (known groups e.0) (in_order e.1) >>= λ g. Ok (with_group groups e.0 g)

abbrev pub join_groups : ℕ → Groups → List (List ℕ × Members) → Told Groups
join_groups number = each (join_group number)

abbrev pub join_value : ℕ → Groups → Json → Told Groups
join_value number groups j = groups_of j >>= λ es. join_groups number groups es

abbrev pub join_json : ℕ → Groups → List ℕ → Told Groups
join_json number groups text = json_of text >>= λ j. join_value number groups j

unfoldable pub join_text : ℕ → Groups → List ℕ → Told Groups
join_text number groups text = join_json number groups (with_quoted_keys text)

-- of the infos of a record, `Q:group` alone speaks of groups
abbrev pub join_info : ℕ → Groups → Info → Told Groups
join_info number groups i = if bytes_eq i.name (codes "Q:group") then join_text number groups i.text else Ok groups

abbrev pub join_infos : ℕ → Groups → List Info → Told Groups
join_infos number = each (join_info number)

-- a record and its number
abbrev pub join_record : Groups → ℕ × RecText → Result Groups GroupFault
join_record groups t = in_record t.1.name (join_infos t.0 groups t.1.infos)

-- the groups of records
abbrev pub join_texts : List RecText → Result Groups GroupFault
join_texts texts = each join_record [] (enumerate_from 0 texts)
