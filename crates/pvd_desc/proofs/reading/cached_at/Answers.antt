use Rattle.pvd_desc.proofs.reading.cached_at.Goals as goal

pub below_at-requires-clause-checked : goal.below_at-requires-clause-checked
below_at-requires-clause-checked c = rw c.shape-shape.ensures.tree c.shape-shape.ensures.checked
