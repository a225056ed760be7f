use Rattle.std.proofs.Common.{◌≡◌}
use Rattle.hall_tests.proofs.halls.add_many.Given as goal

abbrev pub invariant-loop : goal.invariant-loop
invariant-loop g l = l.mine.seat.table_id ≡ l.fn.pass.seat.table_id
