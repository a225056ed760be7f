use Rattle.std.proofs.Common.{◌≡◌, map}
use Rattle.desk_shared.specs.Hands.{places_of, states_of}
use Rattle.desk_shared.specs.Lent.{place_of}
use Rattle.desk_shared.proofs.opening.cells_of.Given as goal

-- a cell for each state so far, with the port beside it
abbrev pub invariant-loop-state : goal.invariant-loop-state
invariant-loop-state g l = record {
  states : states_of l.cells.items ≡ map (λ made. made.0) l.yielded;
  ports : places_of l.cells.items ≡ map (λ made. place_of made.1) l.yielded;
}
