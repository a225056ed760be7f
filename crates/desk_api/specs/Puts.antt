-- What a put to a channel does (pvAccess Protocol Specification, "Channel put").
use Rattle.std.specs.Prelude.{◌≡◌, ⊤, ℕ, ◌==◌, ◌||◌, Bool, true, false, List, [], ◌∷◌, length, map, Option, None}
use Rattle.std.specs.Prelude.{Some, Result, Ok, Err, slice_get}
use Rattle.std.specs.FinSet.{FinSet}
use Rattle.std.specs.List.{filter, list_any, range_with_len}
use Rattle.std.specs.Ordering.{nat_cmp}
use Rattle.pvd_value.specs.Data.{Data}
use Rattle.rec_kinds.specs.Configs.{Config}
use Rattle.rec_kinds.specs.declared.datum.Action.{Action}
use Rattle.rec_kinds.specs.declared.put.PutRefusal.TheVariants.{NothingWritable}
use Rattle.rec_fields.specs.Puts.{action_for}
use Rattle.rec_fields.specs.declared.puts.FieldAnswer.{FieldAnswer}
use Rattle.rec_fields.specs.declared.puts.FieldAnswer.TheVariants.{Refused, NoMemory}
use Rattle.group_view.specs.Groups.{GroupData}
use Rattle.group_view.specs.Leaves.{footprint}
use Rattle.group_view.specs.Puts as group
use Rattle.desk_api.specs.declared.channel.Channel.{Channel}
use Rattle.desk_api.specs.declared.channel.ChannelKind.{ChannelKind}
use Rattle.desk_api.specs.declared.channel.ChannelKind.TheVariants.{Rec, Desc, Group, Service}
use Rattle.desk_api.specs.declared.history.SiteData.{SiteData}

-- an action with the number of its record
abbrev pub to_record : ℕ → Result Action FieldAnswer → Result (List (ℕ × Action)) FieldAnswer
to_record rec (Ok action) = Ok ((rec, action) ∷ [])
to_record rec (Err e) = Err e

abbrev pub to_configured : ℕ → FinSet nat_cmp → Data → Option Config → Result (List (ℕ × Action)) FieldAnswer
to_configured rec mask value None = Err (Refused NothingWritable)
to_configured rec mask value (Some config) = to_record rec (action_for config value mask)

abbrev pub to_group : FinSet nat_cmp → Data → Option GroupData → Result (List (ℕ × Action)) FieldAnswer
to_group mask value None = Err (Refused NothingWritable)
to_group mask value (Some g) = group.actions_for g value mask

-- a description can't be written, nor the service
abbrev pub actions_for : ChannelKind → SiteData → ℕ → FinSet nat_cmp → Data → Result (List (ℕ × Action)) FieldAnswer
actions_for Rec site number mask value = to_configured number mask value (slice_get site.configs number)
actions_for Desc site number mask value = Err (Refused NothingWritable)
actions_for Group site number mask value = to_group mask value (slice_get site.groups number)
actions_for Service site number mask value = Err (Refused NothingWritable)

-- The actions of a put to a channel of the site, in order, each with its record; or why it is refused.
abbrev pub actions_of : SiteData → Channel → FinSet nat_cmp → Data → Result (List (ℕ × Action)) FieldAnswer
actions_of site channel mask value = actions_for channel.kind site channel.number mask value

-- what an answer without actions says; want of memory is free
abbrev pub IsRefusedBy : Result (List (ℕ × Action)) FieldAnswer → FieldAnswer → Type 0
IsRefusedBy actions NoMemory = ⊤
IsRefusedBy actions (Refused refusal) = actions ≡ Err (Refused refusal)

abbrev pub IsRefusal : SiteData → Channel → FinSet nat_cmp → Data → FieldAnswer → Type 0
IsRefusal site channel mask value answer = IsRefusedBy (actions_of site channel mask value) answer

-- whether this record is that one, or is read by a group's leaves that are posted when that one changes
abbrev pub is_held_with : SiteData → ℕ → ℕ → Bool
is_held_with site rec written =
    rec == written || list_any (λ g. list_any (λ r. r == rec) (footprint g written)) site.groups

abbrev pub is_held : SiteData → List (ℕ × Action) → ℕ → Bool
is_held site actions rec = list_any (λ action. is_held_with site rec action.0) actions

-- The records that an entry with these actions holds, in rising order: those that it writes, those that groups post with
-- them,
abbrev pub footprint_by : SiteData → List (ℕ × Action) → List ℕ
footprint_by site actions = filter (is_held site actions) (range_with_len 0 (length site.configs))

-- and, where it is that of a put-get, those that are then looked at.
abbrev pub footprint_with : SiteData → List (ℕ × Action) → List ℕ → List ℕ
footprint_with site actions looked =
    filter (λ rec. is_held site actions rec || list_any (λ r. r == rec) looked) (range_with_len 0 (length site.configs))

-- The entries of a put with these actions: one of all, or one for each.
abbrev pub entries_by : Bool → List (ℕ × Action) → List (List (ℕ × Action))
entries_by true actions = actions ∷ []
entries_by false actions = map (λ action. action ∷ []) actions
