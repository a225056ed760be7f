use Rattle.pvd_type.proofs.Sets.{some_held, nothing_held}
use Rattle.pvd_type.proofs.set.BitSet.is_empty.Goals as goal

pub returns-in-Some : goal.returns-in-Some
returns-in-Some c = some_held c.args.self.now c.in-Some.ensures

pub returns-in-None : goal.returns-in-None
returns-in-None c = nothing_held c.args.self.now c.in-None.ensures
