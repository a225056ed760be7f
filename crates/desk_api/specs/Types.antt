-- The types of channels (Normative Types 1.0).
use Rattle.std.specs.Prelude.{◌≡◌, ℕ, true, [], Option, None, Some, slice_get, if◌then◌else◌}
use Rattle.std.specs.Ordering.{nat_cmp}
use Rattle.std.specs.FinSet.{FinSet, contains}
use Rattle.pvd_type.specs.Tree.{Tree, node, struct, no_fields}
use Rattle.pvd_type.specs.Numbers.{leaves}
use Rattle.pvd_type.specs.declared.shape.Scalar.TheVariants.{Text}
use Rattle.nt_types.specs.Types.{scalar_tree}
use Rattle.rec_kinds.specs.Configs.{Config}
use Rattle.rec_fields.specs.Types.{record_tree}
use Rattle.group_view.specs.Groups.{GroupData}
use Rattle.group_view.specs.Types.{group_tree}
use Rattle.desk_api.specs.Sites.{has_values}
use Rattle.desk_api.specs.declared.channel.Channel.{Channel}
use Rattle.desk_api.specs.declared.channel.ChannelKind.{ChannelKind}
use Rattle.desk_api.specs.declared.channel.ChannelKind.TheVariants.{Rec, Desc, Group, Service}
use Rattle.desk_api.specs.declared.history.SiteData.{SiteData}

-- the type that a record of this configuration shows; no record shows a structure without members
abbrev pub type_shown : Option Config → Tree
type_shown None = node struct [] no_fields
type_shown (Some config) = record_tree config

-- the type of a group; no group shows a structure without an id and members
abbrev pub group_type : Option GroupData → Tree
group_type None = node struct [] no_fields
group_type (Some group) = group_tree group

-- the type of a channel of this kind with this number; a description is a text
abbrev pub type_for : ChannelKind → SiteData → ℕ → Tree
type_for Rec site number = type_shown (slice_get site.configs number)
type_for Desc site number = scalar_tree Text
type_for Group site number = group_type (slice_get site.groups number)
type_for Service site number = node struct [] no_fields

-- The type of a channel's values; the service has none, which stand for a structure without an id and members.
abbrev pub type_of : SiteData → Channel → Tree
type_of site channel = type_for channel.kind site channel.number

-- The type of its values, if it has values.
abbrev pub type_if_valued : SiteData → Channel → Option Tree
type_if_valued site channel = if has_values channel then Some (type_of site channel) else None

-- the set holds leaves of the type
abbrev pub HoldsLeaves : Tree → FinSet nat_cmp → Type 0
HoldsLeaves t mask = (n : ℕ) → contains mask n ≡ true → contains (leaves t) n ≡ true
