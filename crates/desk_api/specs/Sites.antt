-- The names of a site, the channels that they stand for, and the records that these read.
use Rattle.std.specs.Prelude.{ℕ, ℤ, ◌+◌, ◌==◌, Bool, true, false, nat_lt, List, [], ◌∷◌, ◌++◌, length, map, Option, None}
use Rattle.std.specs.Prelude.{Some, slice_get, if◌then◌else◌, bytes_eq, codes}
use Rattle.std.specs.List.{AllByRecursion, range_with_len}
use Rattle.db_load.specs.Forms.{is_record_name as may_name}
use Rattle.rec_kinds.specs.Building.{config_of, opening, opening_of}
use Rattle.rec_kinds.specs.Configs.{Config}
use Rattle.rec_kinds.specs.declared.datum.Datum.TheVariants.{Num}
use Rattle.rec_kinds.specs.declared.kind.Kind.TheVariants.{Longout}
use Rattle.rec_kinds.specs.declared.record_text.RecText.{RecText}
use Rattle.group_view.specs.Groups.{GroupData, IsOver}
use Rattle.group_view.specs.Leaves.{records_of}
use Rattle.desk_api.specs.declared.channel.Channel.{Channel}
use Rattle.desk_api.specs.declared.channel.ChannelKind.{ChannelKind}
use Rattle.desk_api.specs.declared.channel.ChannelKind.TheVariants.{Rec, Desc, Group, Service}
use Rattle.desk_api.specs.declared.history.SiteData.{SiteData}

-- what may name a record: 1 to 60 bytes, none of them a blank, a quote, a full stop or a dollar sign (EPICS record
-- reference, "Record names")
abbrev pub is_record_name : List ℕ → Bool
is_record_name = may_name

abbrev pub channel_of : ChannelKind → ℕ → Channel
channel_of kind number = record { kind = kind; number = number }

-- The names of channels, in order, of the records whose names these are, counted from n: of each record its name,
-- alone or with its field VAL, and its description (EPICS Channel Access Reference Manual, "Channel names").
abbrev pub names_from : ℕ → List (List ℕ) → List (List ℕ × Channel)
names_from n [] = []
names_from n (x ∷ names) =
    (x, channel_of Rec n) ∷ (x ++ codes ".VAL", channel_of Rec n) ∷ (x ++ codes ".DESC", channel_of Desc n)
    ∷ names_from (n + 1) names

-- what the first of these that has this name stands for
abbrev pub first_named : List ℕ → List (List ℕ × Channel) → Option Channel
first_named name [] = None
first_named name (x ∷ xs) = if bytes_eq name x.0 then Some x.1 else first_named name xs

-- The names of channels, in order, of these groups, counted from n.
abbrev pub group_names_from : ℕ → List GroupData → List (List ℕ × Channel)
group_names_from n [] = []
group_names_from n (group ∷ groups) = (group.name, channel_of Group n) ∷ group_names_from (n + 1) groups

-- the channel of the service, by its name
abbrev pub services : List (List ℕ × Channel)
services = (codes "server", channel_of Service 0) ∷ []

-- the channel of this name: a record's, else a group's, and else the service
abbrev pub channel_named : SiteData → List ℕ → Option Channel
channel_named site name = first_named name (names_from 0 site.names ++ (group_names_from 0 site.groups ++ services))

-- The names of the records, in the order of their text, and then those of the groups.
abbrev pub names_of : SiteData → List (List ℕ)
names_of site = site.names ++ map (λ group. group.name) site.groups

-- whether the site has this channel

abbrev pub is_channel_of : ChannelKind → SiteData → ℕ → Bool
is_channel_of Rec site number = nat_lt number (length site.names)
is_channel_of Desc site number = nat_lt number (length site.names)
is_channel_of Group site number = nat_lt number (length site.groups)
is_channel_of Service site number = number == 0

abbrev pub is_channel : SiteData → Channel → Bool
is_channel site channel = is_channel_of channel.kind site channel.number

-- whether the channel has values: all but the service have

abbrev pub kind_has_values : ChannelKind → Bool
kind_has_values Rec = true
kind_has_values Desc = true
kind_has_values Group = true
kind_has_values Service = false

abbrev pub has_values : Channel → Bool
has_values channel = kind_has_values channel.kind

-- Each group is over the site's records, as they are configured.
abbrev pub AreOver : SiteData → Type 0
AreOver site = AllByRecursion (IsOver site.configs) site.groups

-- the records of a group, in rising order
abbrev pub records_in : Option GroupData → List ℕ
records_in None = []
records_in (Some group) = records_of group.members

-- all records, in rising order
abbrev pub all_records : SiteData → List ℕ
all_records site = range_with_len 0 (length site.names)

-- the records that a get of the channel reads, and those of which the service tells, in rising order
abbrev pub footprint_for : ChannelKind → SiteData → ℕ → List ℕ
footprint_for Rec site number = number ∷ []
footprint_for Desc site number = []
footprint_for Group site number = records_in (slice_get site.groups number)
footprint_for Service site number = all_records site

abbrev pub footprint_of : SiteData → Channel → List ℕ
footprint_of site channel = footprint_for channel.kind site channel.number

-- Whether gets and puts of the channel are atomic: those of a group as the request says, and else as the group's flag
-- says; those of other channels always (QSRV manual, "Group PV definitions", `+atomic`).
abbrev pub is_atomic_group : Option GroupData → Option Bool → Bool
is_atomic_group group (Some wanted) = wanted
is_atomic_group (Some group) None = group.atomic
is_atomic_group None None = true

abbrev pub is_atomic_for : ChannelKind → SiteData → ℕ → Option Bool → Bool
is_atomic_for Rec site number wanted = true
is_atomic_for Desc site number wanted = true
is_atomic_for Group site number wanted = is_atomic_group (slice_get site.groups number) wanted
is_atomic_for Service site number wanted = true

abbrev pub is_atomic : SiteData → Channel → Option Bool → Bool
is_atomic site channel wanted = is_atomic_for channel.kind site channel.number wanted

-- how these records are configured
abbrev pub configs_of : List RecText → List Config
configs_of records = map (λ r. config_of r.kind r.fields) records

-- The site of these records, as a text states them, with these groups.
abbrev pub site_of : List RecText → List GroupData → SiteData
site_of records groups = record {
  names = map (λ r. r.name) records;
  configs = configs_of records;
  opening = map (λ r. opening_of r.kind r.fields) records;
  groups = groups;
}

-- The site of one longout without fields, with this name and the value that it opens with.
abbrev pub single : List ℕ → ℤ → SiteData
single name value = record {
  names = name ∷ [];
  configs = config_of Longout [] ∷ [];
  opening = opening (config_of Longout []) (Num value) false ∷ [];
  groups = [];
}
