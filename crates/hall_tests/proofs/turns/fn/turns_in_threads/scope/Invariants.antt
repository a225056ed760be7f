use Rattle.std.proofs.Common.{◌≡◌}
use Rattle.hall_tests.proofs.turns.fn.turns_in_threads.scope.Given as goal

abbrev pub invariant-loop-turn : goal.invariant-loop-turn
invariant-loop-turn g l = l.keep.seat.table_id ≡ l.initial.keep.seat.table_id
