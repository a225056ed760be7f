use Rattle.pvd_type.specs.View.{shape_view}
use Rattle.pvd_type.proofs.Counts.{few_numbers, few_nodes}
use Rattle.pvd_type.proofs.pv_type.PvType.shape.Goals as goal

pub returns-clause-few : goal.returns-clause-few
returns-clause-few c = rw (← c.self.view_is) (few_numbers (shape_view c.self.inside.whole.value.shape) c.self.invariant.0)

pub returns-clause-few_nodes : goal.returns-clause-few_nodes
returns-clause-few_nodes c = rw (← c.self.view_is) (few_nodes (shape_view c.self.inside.whole.value.shape) c.self.invariant.0)
