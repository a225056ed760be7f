use Rattle.std.proofs.Common.{arith}
use Rattle.pvd_type.specs.View.{shape_view}
use Rattle.pvd_type.proofs.Counts.{few_numbers}
use Rattle.pvd_type.proofs.pv_type.PvType.of_checked.Goals as goal

pub measure-requires : goal.measure-requires
measure-requires c = omega (arith, few_numbers (shape_view c.args.shape) c.requires, c.new-sizes.ensures.len)
