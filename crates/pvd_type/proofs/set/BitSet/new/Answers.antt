use Rattle.std.proofs.Common.{◌∙◌, ap}
use Rattle.pvd_type.specs.Sets.{held}
use Rattle.pvd_type.proofs.Sets.{held_zero}
use Rattle.pvd_type.proofs.set.BitSet.new.Goals as goal

pub returns : goal.returns
returns c = ap held c.from_buf.ensures.items ∙ held_zero
