-- Groups may go to another thread, and several may read one.
use denote.Param.Send.{IsSend, IsSync, sendable, view_send, view_sync}
use Rattle.std.proofs.Crossing.{crosses}
use Rattle.std.proofs.MapsCrossing as maps
use Rattle.std.proofs.MapsCrossingOver as columns
use Rattle.pvd_type.proofs.Crossing.{type_field_send, type_field_sync}
use Rattle.pvd_type.proofs.name.Name.TheSendSync as name
use Rattle.pvd_type.proofs.set.BitSet.TheSendSync as set
use Rattle.group_view.specs.contracts.group.Group as Group
use Rattle.group_view.specs.contracts.group.Group.TheInside as GroupInside
use Rattle.group_view.specs.contracts.slots.Named as Named
use Rattle.group_view.specs.contracts.source.Source as Source
use Rattle.group_view.specs.contracts.source.Source.TheInside as SourceInside
use Rattle.group_view.proofs.slots.Branch.TheLaws.TheKnot as slots
use Rattle.rec_kinds.proofs.items.Items.TheSendSync as items
use Rattle.group_view.proofs.link.Linked.TheSendSync as link
use Rattle.group_view.proofs.piece.Piece.TheSendSync as piece
use Rattle.group_view.proofs.reach.Reach.TheSendSync as reach
use Rattle.group_view.proofs.writer.Writer.TheSendSync as writer
use Rattle.group_view.proofs.member.Member.TheSendSync as member

source_inside_send : IsSend SourceInside.the_row
source_inside_send = search (piece.the_field_send, link.the_send, type_field_send, sendable) depth 20 fits 10000

source_inside_sync : IsSync SourceInside.the_row
source_inside_sync = search (piece.the_field_sync, link.the_sync, type_field_sync, sendable) depth 20 fits 10000

source_send : IsSend (Source.the_field).row
source_send = search (source_inside_send, view_send)

source_sync : IsSync (Source.the_field).row
source_sync = search (source_inside_sync, view_sync)

named_send : IsSend (Named.the_field).row
named_send = search (slots.crosses_both, source_send, source_sync, name.the_send, name.the_sync, crosses) depth 40 fits 10000

named_sync : IsSync (Named.the_field).row
named_sync = search (slots.crosses_both, source_send, source_sync, name.the_send, name.the_sync, crosses) depth 40 fits 10000

group_inside_send : IsSend GroupInside.the_row
group_inside_send = search (name.the_send, items.the_send, member.the_send, type_field_send, named_send, reach.the_send, writer.the_send, set.the_send, crosses, columns.crosses, maps.crosses, sendable) depth 40 fits 20000

group_inside_sync : IsSync GroupInside.the_row
group_inside_sync = search (name.the_sync, items.the_sync, member.the_sync, type_field_sync, named_sync, reach.the_sync, writer.the_sync, set.the_sync, crosses, columns.crosses, maps.crosses, sendable) depth 40 fits 20000

pub group_send : IsSend Group.the_row
group_send = search (group_inside_send, view_send)

pub group_sync : IsSync Group.the_row
group_sync = search (group_inside_sync, view_sync)
