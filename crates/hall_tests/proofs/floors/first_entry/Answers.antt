use Rattle.hall_tests.proofs.TwoCells as two_cells
use Rattle.hall_tests.proofs.floors.first_entry.Goals as goal

pub returns : goal.returns
returns c f none = two_cells.first_entry f _ c.in_ok-writes.ensures.items none
