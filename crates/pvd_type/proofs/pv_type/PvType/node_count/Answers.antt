use Rattle.std.proofs.Common.{ap, length, ◌∙◌}
use Rattle.pvd_type.specs.Numbers.{numbered}
use Rattle.pvd_type.proofs.Sizes.{length-sizes_of}
use Rattle.pvd_type.proofs.pv_type.PvType.node_count.Goals as goal

pub returns-clause-count : goal.returns-clause-count
returns-clause-count c = ap length c.sizes.ensures.sizes ∙ length-sizes_of (numbered c.args.self.now)
