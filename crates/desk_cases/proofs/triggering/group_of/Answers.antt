use Rattle.std.proofs.Common.{◌≡◌, ◌<◌, ℕ, IsTrue, length, sym, ◌∙◌}
use Rattle.std.proofs.lemmas.Bool.{ltb-true}
use Rattle.desk_api.specs.Sites.{is_channel, is_channel_of}
use Rattle.desk_api.specs.declared.channel.ChannelKind.{ChannelKind}
use Rattle.desk_api.specs.declared.channel.ChannelKind.TheVariants.{Rec, Desc, Group, Service}
use Rattle.desk_api.specs.declared.history.SiteData.{SiteData}
use Rattle.desk_cases.proofs.triggering.group_of.Goals as goal

-- the channel of a group has a group's number
of_group : (site : SiteData) (kind : ChannelKind) (number : ℕ) → kind ≡ Group → IsTrue (is_channel_of kind site number) → number < length site.groups
of_group site Group number is there = ltb-true number (length site.groups) there
of_group site Rec number is there = absurd (cc is)
of_group site Desc number is there = absurd (cc is)
of_group site Service number is there = absurd (cc is)

pub group-requires : goal.group-requires
group-requires c =
    let site = c.args.site.now in
    let channel = c.in-Some.channel in
    let there : IsTrue (is_channel site channel) = c.found_channels.ensures site c.args.name.now channel (sym c.find.ensures ∙ c.in-Some.is) in
    of_group site channel.kind channel.number c.in-Group.is there
