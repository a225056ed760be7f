use Rattle.pvd_type.specs.View.{shape_view}
use Rattle.pvd_type.specs.Numbers.{numbered}
use Rattle.pvd_type.proofs.At.{none_past}
use Rattle.pvd_type.proofs.pv_type.PvType.shape_at.Goals as goal

pub returns-clause-none : goal.returns-clause-none
returns-clause-none c = rw (← c.shape.ensures.tree) (none_past (λ s. shape_view s.now) c.at.result c.args.number (numbered (shape_view c.shape.result.now)) c.at.ensures)
