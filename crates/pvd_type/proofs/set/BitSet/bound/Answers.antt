use Rattle.std.proofs.Common.{arith}
use Rattle.pvd_type.proofs.Sets.{past_all}
use Rattle.pvd_type.proofs.set.BitSet.bound.Goals as goal

pub returns-clause-none : goal.returns-clause-none
returns-clause-none c = λ q h. rw (← c.self.view_is) (past_all c.self.inside.words.items q (omega arith))
