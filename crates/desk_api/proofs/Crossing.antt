-- Sites may go to another thread, and several may read one.
use denote.Param.Send.{IsSend, IsSync, sendable, view_send, view_sync}
use Rattle.std.proofs.Crossing.{crosses}
use Rattle.std.proofs.MapsCrossing as maps
use Rattle.indexmap.proofs.map.IndexMap.TheSendSync as index_map
use Rattle.indexmap.proofs.set.IndexSet.TheSendSync as index_set
use Rattle.pvd_type.proofs.Crossing.{type_field_send, type_field_sync}
use Rattle.desk_api.proofs.GroupsCrossing.{group_send, group_sync}
use Rattle.pvd_type.proofs.set.BitSet.TheSendSync as set
use Rattle.rec_kinds.proofs.config.RecConfig.TheSendSync as config
use Rattle.desk_api.specs.contracts.site.Site as Site
use Rattle.desk_api.specs.contracts.site.Site.TheInside as SiteInside
use Rattle.desk_api.specs.contracts.groups.Groups as Groups
use Rattle.desk_api.specs.contracts.groups.Groups.TheInside as GroupsInside
use Rattle.desk_api.specs.contracts.records.Served as Served
use Rattle.desk_api.specs.contracts.records.Records as Records
use Rattle.desk_api.specs.contracts.records.Records.TheInside as RecordsInside

served_send : IsSend Served.the_row
served_send = search (config.the_send, config.the_sync, type_field_send, set.the_send, crosses, sendable) depth 30 fits 10000

served_sync : IsSync Served.the_row
served_sync = search (config.the_send, config.the_sync, type_field_sync, set.the_sync, crosses, sendable) depth 30 fits 10000

records_inside_send : IsSend RecordsInside.the_row
records_inside_send = search (index_map.the_send, served_send, crosses, maps.crosses, sendable) depth 30 fits 10000

records_inside_sync : IsSync RecordsInside.the_row
records_inside_sync = search (index_map.the_sync, served_sync, crosses, maps.crosses, sendable) depth 30 fits 10000

groups_inside_send : IsSend GroupsInside.the_row
groups_inside_send = search (index_set.the_send, group_send, crosses, maps.crosses, sendable) depth 30 fits 10000

groups_inside_sync : IsSync GroupsInside.the_row
groups_inside_sync = search (index_set.the_sync, group_sync, crosses, maps.crosses, sendable) depth 30 fits 10000

records_send : IsSend Records.the_row
records_send = search (records_inside_send, view_send)

records_sync : IsSync Records.the_row
records_sync = search (records_inside_sync, view_sync)

groups_send : IsSend Groups.the_row
groups_send = search (groups_inside_send, view_send)

groups_sync : IsSync Groups.the_row
groups_sync = search (groups_inside_sync, view_sync)

site_inside_send : IsSend SiteInside.the_row
site_inside_send = search (records_send, groups_send, type_field_send, set.the_send, crosses, sendable) depth 30 fits 10000

site_inside_sync : IsSync SiteInside.the_row
site_inside_sync = search (records_sync, groups_sync, type_field_sync, set.the_sync, crosses, sendable) depth 30 fits 10000

pub site_send : IsSend Site.the_row
site_send = search (site_inside_send, view_send)

pub site_sync : IsSync Site.the_row
site_sync = search (site_inside_sync, view_sync)
