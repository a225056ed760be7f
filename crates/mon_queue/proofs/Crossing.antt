-- Updates and queues of them may go to another thread, and several may read one.
use denote.Param.Send.{IsSend, IsSync, sendable}
use Rattle.std.proofs.Crossing.{crosses}
use Rattle.circular_buffer.proofs.heap.HeapCircularBuffer.TheSendSync as ring
use Rattle.pvd_type.proofs.Crossing.{type_field_send, type_field_sync}
use Rattle.pvd_type.proofs.set.BitSet.TheSendSync as set
use Rattle.pvd_value.proofs.Crossing.{value_send, value_sync}
use Rattle.mon_queue.specs.contracts.shared.SharedValue as SharedValue
use Rattle.mon_queue.specs.contracts.update.Update as Update
use Rattle.mon_queue.specs.contracts.queue.MonQueue as MonQueue

pub shared_send : IsSend SharedValue.the_row
shared_send = search (value_send, value_sync, crosses, sendable) depth 40 fits 20000

pub shared_sync : IsSync SharedValue.the_row
shared_sync = search (value_send, value_sync, crosses, sendable) depth 40 fits 20000

-- The same of one that is a field.
pub shared_field_send : IsSend (SharedValue.the_field).row
shared_field_send = search (value_send, value_sync, crosses, sendable) depth 40 fits 20000

pub shared_field_sync : IsSync (SharedValue.the_field).row
shared_field_sync = search (value_send, value_sync, crosses, sendable) depth 40 fits 20000

pub update_send : IsSend Update.the_row
update_send = search (shared_field_send, set.the_send, sendable) depth 20 fits 10000

pub update_sync : IsSync Update.the_row
update_sync = search (shared_field_sync, set.the_sync, sendable) depth 20 fits 10000

pub queue_send : IsSend MonQueue.the_row
queue_send = search (ring.the_send, update_send, type_field_send, crosses, sendable) depth 30 fits 10000

pub queue_sync : IsSync MonQueue.the_row
queue_sync = search (ring.the_sync, update_sync, type_field_sync, crosses, sendable) depth 30 fits 10000
