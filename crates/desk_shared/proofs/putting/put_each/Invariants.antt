use Rattle.std.proofs.Common.{◌≡◌, [], ◌∷◌, length, map}
use Rattle.desk_api.specs.Calls.{Calls, EndsAtItsMarks}
use Rattle.desk_core.specs.Ports.{ports_there}
use Rattle.desk_shared.specs.Desks.{Stands}
use Rattle.desk_shared.specs.Records.{seat_of}
use Rattle.desk_shared.proofs.Entered.{AreSoFar}
use Rattle.desk_shared.proofs.putting.put_each.Given as goal

-- the actions so far were put, each as an entry of its own
abbrev pub invariant-loop-action : goal.invariant-loop-action
invariant-loop-action g l = record {
  stands : Stands l.hall.table.shared.table_id l.hall.count l.site l.cells.states.items (ports_there l.cells.ports.items) l.pass.seat.table_id l.pass.seat.me.0;
  others : l.pass.seat.me.0.others ≡ l.fn.pass.seat.me.0.others;
  calls : Calls (seat_of l.fn.pass.seat.me.0) (seat_of l.pass.seat.me.0) (AreSoFar l.site l.moment (map (λ action. action ∷ []) l.yielded) l.count l.first);
  ends : EndsAtItsMarks (seat_of l.fn.pass.seat.me.0) (seat_of l.pass.seat.me.0);
  count : l.count ≡ length l.yielded;
}
