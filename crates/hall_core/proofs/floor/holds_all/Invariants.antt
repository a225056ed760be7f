use Rattle.std.proofs.Common.{◌≡◌, ◌↔◌, Some, slice_get, drop}
use Rattle.histories.specs.History.{Every}
use Rattle.hall_core.proofs.floor.holds_all.Given as goal

abbrev pub invariant-loop-write : goal.invariant-loop-write
invariant-loop-write g l = Every (λ w. slice_get l.holders w.0 ≡ Some (Some l.actor)) l.writes ↔ Every (λ w. slice_get l.holders w.0 ≡ Some (Some l.actor)) (drop l.write-index l.writes)
