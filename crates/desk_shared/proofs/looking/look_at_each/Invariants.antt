use Rattle.std.proofs.Common.{◌≡◌, take}
use Rattle.journal_core.specs.Legality.{AreValid}
use Rattle.desk_api.specs.Calls.{Calls, EndsAtItsMarks}
use Rattle.desk_shared.specs.Looks.{AreAll, IsRestorable}
use Rattle.desk_shared.specs.Records.{seat_of}
use Rattle.desk_shared.proofs.looking.look_at_each.Given as goal

-- the records so far were looked at
abbrev pub invariant-loop-rec : goal.invariant-loop-rec
invariant-loop-rec g l = record {
  own : l.pass.seat.table_id ≡ l.fn.pass.seat.table_id;
  others : l.pass.seat.me.0.others ≡ l.fn.pass.seat.me.0.others;
  calls : Calls (seat_of l.fn.pass.seat.me.0) (seat_of l.pass.seat.me.0) (AreAll l.channel (take l.rec-index l.recs) l.fn.cells.states.items l.cells.states.items);
  ends : EndsAtItsMarks (seat_of l.fn.pass.seat.me.0) (seat_of l.pass.seat.me.0);
  valid : AreValid l.site.configs l.cells.states.items;
  restorable : IsRestorable l.site.opening l.cells.states.items l.cells.before.items;
  ports : l.cells.ports.items ≡ l.fn.cells.ports.items;
}
