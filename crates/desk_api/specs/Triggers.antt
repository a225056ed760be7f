-- What subscriptions to a channel see of the records.
use Rattle.std.specs.Prelude.{◌==◌, ◌&&◌, ℕ, Bool, Option, None, Some, slice_get, if◌then◌else◌}
use Rattle.std.specs.FinSet.{FinSet, empty}
use Rattle.std.specs.Ordering.{nat_cmp}
use Rattle.pvd_type.specs.Numbers.{leaves}
use Rattle.group_view.specs.Groups.{GroupData}
use Rattle.group_view.specs.Leaves.{triggered}
use Rattle.mon_shown.specs.Channels.{ChannelView}
use Rattle.desk_api.specs.Sites.{has_values, is_channel}
use Rattle.desk_api.specs.Types.{type_of}
use Rattle.desk_api.specs.Views.{value_of}
use Rattle.desk_api.specs.declared.channel.Channel.{Channel}
use Rattle.desk_api.specs.declared.channel.ChannelKind.{ChannelKind}
use Rattle.desk_api.specs.declared.channel.ChannelKind.TheVariants.{Rec, Desc, Group, Service}
use Rattle.desk_api.specs.declared.history.SiteData.{SiteData}

-- The leaves of a channel that are posted where a record is written: all leaves of the record's own channel, in a group
-- those that the record triggers, and none of a description (QSRV manual, "Group PV definitions", `+trigger`).

abbrev pub triggered_in : Option GroupData → ℕ → FinSet nat_cmp
triggered_in None rec = empty
triggered_in (Some group) rec = triggered group rec

abbrev pub triggers_for : ChannelKind → SiteData → ℕ → ℕ → FinSet nat_cmp
triggers_for Rec site number rec =
    if rec == number then leaves (type_of site (record { kind = Rec; number = number })) else empty
triggers_for Desc site number rec = empty
triggers_for Group site number rec = triggered_in (slice_get site.groups number) rec
triggers_for Service site number rec = empty

abbrev pub triggers_of : SiteData → Channel → ℕ → FinSet nat_cmp
triggers_of site channel rec = triggers_for channel.kind site channel.number rec

-- the channel as a function of the records
abbrev pub channel_view : SiteData → Channel → ChannelView
channel_view site channel = record {
  ty = type_of site channel;
  view = value_of site channel;
  triggers = triggers_of site channel;
}

-- the channels of the site that may be subscribed to
abbrev pub may_be_watched : SiteData → Channel → Bool
may_be_watched site channel = is_channel site channel && has_values channel
