use Rattle.std.proofs.Common.{◌≡◌, ◌<◌, ℕ, IsTrue, length, sym, ◌∙◌}
use Rattle.std.proofs.lemmas.Bool.{ltb-true}
use Rattle.desk_api.specs.Sites.{is_channel, is_channel_of}
use Rattle.desk_api.specs.declared.channel.ChannelKind.{ChannelKind}
use Rattle.desk_api.specs.declared.channel.ChannelKind.TheVariants.{Rec, Desc, Group, Service}
use Rattle.desk_api.specs.declared.history.SiteData.{SiteData}
use Rattle.desk_cases.proofs.operations.port_of.Goals as goal

-- the channel of a record has a record's number
of_record : (site : SiteData) (kind : ChannelKind) (number : ℕ) → kind ≡ Rec → IsTrue (is_channel_of kind site number) → number < length site.names
of_record site Rec number is there = ltb-true number (length site.names) there
of_record site Desc number is there = ltb-true number (length site.names) there
of_record site Group number is there = absurd (cc is)
of_record site Service number is there = absurd (cc is)

pub port-requires : goal.port-requires
port-requires c =
    let site = c.args.desk.now.log.seen.base.site in
    let channel = c.in-Some.channel in
    let there : IsTrue (is_channel site channel) = c.found_channels.ensures site c.args.name.now channel (sym c.find.ensures ∙ c.in-Some.is) in
    of_record site channel.kind channel.number c.in-Rec.is there
