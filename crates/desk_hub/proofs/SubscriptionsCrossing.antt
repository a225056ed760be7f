-- Subscriptions may go to another thread, and several may read one, as their channels may.
use denote.RattleType.{RattleType}
use denote.Struct.Field.{Field}
use denote.Param.Send.{IsSend, IsSync, sendable}
use denote.Param.SendFields.{declared_send, declared_sync, variants_send, variants_sync, as_row_send, as_row_sync}
use Rattle.std.proofs.Crossing.{Vec-send, Vec-sync}
use Rattle.std.specs.contracts.option.Option as Option
use Rattle.std.specs.contracts.vec.Vec as Vec
use Rattle.std.specs.contracts.alloc.Global as Heap
use Rattle.std.specs.contracts.impls.GlobalAllocator.TheImpl.{ghosts}
use Rattle.pvd_type.proofs.set.BitSet.TheSendSync as set
use Rattle.mon_queue.proofs.Crossing.{queue_send, queue_sync, shared_field_send, shared_field_sync}
use Rattle.mon_shown.specs.contracts.watching.Watching as Watching
use Rattle.mon_shown.specs.contracts.subscriptions.Subscriptions as Subscriptions
use Rattle.mon_shown.proofs.index.Index.TheSendSync as index

option_send : (R : RattleType) → IsSend R → IsSend (Option.the_row R)
option_send R s = variants_send (Option.enum R) (search (s, sendable) depth 12)

option_sync : (R : RattleType) → IsSync R → IsSync (Option.the_row R)
option_sync R s = variants_sync (Option.enum R) (search (s, sendable) depth 12)

pub watching_send : (C : RattleType) → IsSend C → IsSend (Watching.the_row C)
watching_send C c = declared_send (Watching.the_type C) (search (c, set.the_send, shared_field_send, queue_send, sendable) depth 30 fits 10000)

pub watching_sync : (C : RattleType) → IsSync C → IsSync (Watching.the_row C)
watching_sync C c = declared_sync (Watching.the_type C) (search (c, set.the_sync, shared_field_sync, queue_sync, sendable) depth 30 fits 10000)

abbrev slots : RattleType → Field
slots C = Vec.the_field (Option.the_row (Watching.the_row C)) Heap.the_row ghosts

pub subscriptions_send : (C : RattleType) → IsSend C → IsSend (Subscriptions.the_row C)
subscriptions_send C c = declared_send (Subscriptions.the_type C) (
  as_row_send (slots C) (Vec-send (Option.the_row (Watching.the_row C)) (option_send (Watching.the_row C) (watching_send C c))),
  (search (index.the_send, sendable), tt),
)

pub subscriptions_sync : (C : RattleType) → IsSync C → IsSync (Subscriptions.the_row C)
subscriptions_sync C c = declared_sync (Subscriptions.the_type C) (
  as_row_sync (slots C) (Vec-sync (Option.the_row (Watching.the_row C)) (option_sync (Watching.the_row C) (watching_sync C c))),
  (search (index.the_sync, sendable), tt),
)
