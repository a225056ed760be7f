use Rattle.std.proofs.Common.{◌≡◌, length}
use Rattle.desk_core.specs.Ports.{ports_there}
use Rattle.desk_shared.specs.Hands.{states_of}
use Rattle.desk_shared.proofs.Exchanged.{AreFirst}
use Rattle.desk_shared.proofs.exchanging.exchange.Given as goal

-- those so far were exchanged
abbrev pub invariant-loop-at : goal.invariant-loop-at
invariant-loop-at g l = record {
  first : AreFirst l.fn.recs l.at (states_of l.fn.hand.items) (states_of l.hand.items) l.fn.cells.states.items l.cells.states.items;
  many : length l.hand.items ≡ length l.fn.hand.items;
  ports : ports_there l.cells.ports.items ≡ ports_there l.fn.cells.ports.items;
  before : l.cells.before ≡ l.fn.cells.before;
}
