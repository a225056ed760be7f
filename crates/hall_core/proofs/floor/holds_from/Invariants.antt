use Rattle.std.proofs.Common.{◌≡◌, ◌<◌, ◌≤◌, Some, slice_get}
use Rattle.hall_core.proofs.floor.holds_from.Given as goal

abbrev pub invariant-loop-above : goal.invariant-loop-above
invariant-loop-above l = (above : _) → l.fn.cell ≤ above → above < l.above → slice_get l.holders above ≡ Some (Some l.actor) → ⊥
