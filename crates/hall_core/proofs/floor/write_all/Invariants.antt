use Rattle.std.proofs.Common.{◌≡◌, ◌<◌, length}
use Rattle.histories.specs.History.{Every}
use Rattle.hall_core.specs.Floor.{written}
use Rattle.hall_core.proofs.floor.write_all.Given as goal

-- what is left to write, written to the cells as they are, gives what all gives
abbrev pub invariant-loop-cell : goal.invariant-loop-cell
invariant-loop-cell g l =
    (goal.iterator-loop-cell g).can_next l.cell-iterator
    × (goal.iterator-loop-cell g).is_finite l.cell-iterator
    × (written l.cells.items l.cell-iterator.rest.items ≡ written l.fn.cells.items l.fn.writes.items)
    × Every (λ w. w.0 < length l.cells.items) l.cell-iterator.rest.items
