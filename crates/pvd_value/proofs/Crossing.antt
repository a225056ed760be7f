-- Values may go to another thread, and several may read one.
use denote.Param.Send.{IsSend, IsSync, sendable}
use Rattle.std.proofs.Crossing.{crosses}
use Rattle.pvd_type.proofs.Crossing.{type_send, type_sync}
use Rattle.pvd_type.proofs.name.Name.TheSendSync as name
use Rattle.pvd_value.specs.contracts.value.PvValue as PvValue
use Rattle.pvd_value.proofs.value.Items.TheSendSync as items
use Rattle.pvd_value.proofs.value.PvValue.TheLaws.TheKnot as values

pub value_send : IsSend PvValue.the_row
value_send = search (values.crosses_both, crosses, name.the_send, name.the_sync, items.the_field_send, items.the_field_sync, type_send, type_sync, sendable) depth 40 fits 20000

pub value_sync : IsSync PvValue.the_row
value_sync = search (values.crosses_both, crosses, name.the_send, name.the_sync, items.the_field_send, items.the_field_sync, type_send, type_sync, sendable) depth 40 fits 20000

-- The same of a value that is a field.
pub value_field_send : IsSend (PvValue.the_field).row
value_field_send = search (values.crosses_both, crosses, name.the_send, name.the_sync, items.the_field_send, items.the_field_sync, type_send, type_sync, sendable) depth 40 fits 20000

pub value_field_sync : IsSync (PvValue.the_field).row
value_field_sync = search (values.crosses_both, crosses, name.the_send, name.the_sync, items.the_field_send, items.the_field_sync, type_send, type_sync, sendable) depth 40 fits 20000
