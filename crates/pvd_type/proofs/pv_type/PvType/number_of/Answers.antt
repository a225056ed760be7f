use Rattle.pvd_type.proofs.Sizes.{some_number}
use Rattle.pvd_type.proofs.pv_type.PvType.number_of.Goals as goal

pub returns-then-is_empty-clause-within : goal.returns-then-is_empty-clause-within
returns-then-is_empty-clause-within c = some_number c.args.self.now
