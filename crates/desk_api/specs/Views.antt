-- What a channel shows, as a function of the states of all records (Normative Types 1.0).
use Rattle.std.specs.Prelude.{◌≡◌, ℕ, List, [], ◌∷◌, set, map, Option, None, Some, slice_get}
use Rattle.pvd_value.specs.Blank.{blank_of}
use Rattle.pvd_value.specs.Data.{Data}
use Rattle.pvd_type.specs.declared.shape.Scalar.TheVariants.{Text}
use Rattle.nt_types.specs.Types.{scalar_tree}
use Rattle.rec_kinds.specs.Configs.{Config}
use Rattle.rec_kinds.specs.declared.state.RecState.{RecState}
use Rattle.rec_fields.specs.Shown.{shown, desc_shown}
use Rattle.group_view.specs.Groups.{GroupData}
use Rattle.group_view.specs.Views.{group_shown}
use Rattle.desk_api.specs.Types.{type_shown, group_type}
use Rattle.desk_api.specs.declared.channel.Channel.{Channel}
use Rattle.desk_api.specs.declared.channel.ChannelKind.{ChannelKind}
use Rattle.desk_api.specs.declared.channel.ChannelKind.TheVariants.{Rec, Desc, Group, Service}
use Rattle.desk_api.specs.declared.history.SiteData.{SiteData}

-- what a record shows, and a blank value where there is no such record or state
abbrev pub shown_or_blank : Option Config → Option RecState → Data
shown_or_blank (Some config) (Some state) = shown config state
shown_or_blank config _ = blank_of (type_shown config)

-- the description of a record, and a blank value where there is no such record
abbrev pub described : Option Config → Data
described (Some config) = desc_shown config
described None = blank_of (scalar_tree Text)

-- what a group shows of all records, and a blank value where there is no such group
abbrev pub grouped : Option GroupData → List RecState → Data
grouped (Some group) states = group_shown group states
grouped None states = blank_of (group_type None)

abbrev pub value_for : ChannelKind → SiteData → ℕ → List RecState → Data
value_for Rec site number states = shown_or_blank (slice_get site.configs number) (slice_get states number)
value_for Desc site number states = described (slice_get site.configs number)
value_for Group site number states = grouped (slice_get site.groups number) states
value_for Service site number states = blank_of (group_type None)

-- What the channel shows where the records have these states.
abbrev pub value_of : SiteData → Channel → List RecState → Data
value_of site channel states = value_for channel.kind site channel.number states

-- The states of these records, in order, laid over others.
abbrev pub laid : List RecState → List ℕ → List RecState → List RecState
laid states (rec ∷ recs) (s ∷ found) = laid (set states rec s) recs found
laid states _ _ = states

-- The states of these records, in order, of those that there are.
abbrev pub before_found : Option RecState → List RecState → List RecState
before_found None found = found
before_found (Some state) found = state ∷ found

abbrev pub found_in : List RecState → List ℕ → List RecState
found_in states [] = []
found_in states (rec ∷ recs) = before_found (slice_get states rec) (found_in states recs)

-- The states are those of these records, in their order.
abbrev pub AreStatesOf : List RecState → List ℕ → List RecState → Type 0
AreStatesOf states recs found = map Some found ≡ map (λ rec. slice_get states rec) recs
