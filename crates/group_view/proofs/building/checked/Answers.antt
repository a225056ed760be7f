use Rattle.pvd_type.specs.View.{shape_view}
use Rattle.group_view.proofs.building.checked.Goals as goal

pub returns-in-Err-clause-fault : goal.returns-in-Err-clause-fault
returns-in-Err-clause-fault c = c.shape_fault.ensures (shape_view c.args.shape) c.in-Err.ensures.fault
