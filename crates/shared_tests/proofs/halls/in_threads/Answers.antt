use contract.Lifetimes.{Lfts}
use denote.Param.{param}
use denote.Param.Send.{IsSend, IsSync, sendable, param_send, arg_send, shr_send, struct_send, enum_send, recorded_send}
use Rattle.std.proofs.Crossing.{crosses, send as heap_send}
use Rattle.hall_locks.proofs.hall.Hall.TheSendSync as hall
use Rattle.hall_locks.proofs.pass.Pass.TheSendSync as pass
use Rattle.desk_shared.proofs.records.RecCell.TheSendSync as cell
use Rattle.desk_shared.proofs.Crossing.{books_send}
use Rattle.desk_api.proofs.Crossing.{site_sync}
use Rattle.shared_tests.proofs.halls.in_threads.Given.{Over}
use Rattle.shared_tests.proofs.halls.in_threads.Lts as Lts
use Rattle.shared_tests.proofs.halls.in_threads.Goals as goal

-- What a thread takes along, apart from all that is known where it is made: a search among that takes too many steps.
sends : (g : Over) (κs : Lfts 14) → IsSync (param 0 g.row.R) → IsSend (param 1 g.row.P) → IsSync (param 2 g.row.A) → IsSend (param 1 (Lts.arg-0-1 g.row.R g.row.P g.row.A g.row.B g.row.A-Told g.row.B-Told g.R.laws g.P.laws g.A.laws g.B.laws g.A.Told.laws g.B.Told.laws g.R.Threads-dict g.R.Wait-dict g.P.Port-dict g.A.Doing-dict g.B.Doing-dict g.P.Destruct-dict g.A.Told.Destruct-dict g.B.Told.Destruct-dict κs))
sends g κs r p a = search (heap_send, pass.the_send, hall.the_sync, cell.the_send, books_send, site_sync, param_send, arg_send, shr_send, struct_send, recorded_send) depth 80 fits 20000

told : (g : Over) (κs : Lfts 14) → IsSend (param 1 g.row.P) → IsSend (param 4 g.row.A-Told) → IsSend (param 3 (Lts.arg-0-3 g.row.R g.row.P g.row.A g.row.B g.row.A-Told g.row.B-Told g.R.laws g.P.laws g.A.laws g.B.laws g.A.Told.laws g.B.Told.laws g.R.Threads-dict g.R.Wait-dict g.P.Port-dict g.A.Doing-dict g.B.Doing-dict g.P.Destruct-dict g.A.Told.Destruct-dict g.B.Told.Destruct-dict κs))
told g κs p t = search (heap_send, pass.the_send, cell.the_send, books_send, param_send, arg_send, enum_send, struct_send, recorded_send) depth 80 fits 20000

pub join-requires-send-F : goal.join-requires-send-F
join-requires-send-F g c κs within = sends g κs c.type_bounds.sync-R c.type_bounds.send-P c.type_bounds.sync-A

pub join-requires-send-A : goal.join-requires-send-A
join-requires-send-A g c κs within = told g κs c.type_bounds.send-P c.type_bounds.send-A-Told
