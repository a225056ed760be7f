use Rattle.pvd_codec.proofs.Spelled.{value_written}
use Rattle.pvd_codec.proofs.SpelledParts.{part_written}
use Rattle.pvd_codec.proofs.laws.written_is_spelled.Goals as goal

pub returns-clause-full : goal.returns-clause-full
returns-clause-full c = λ o before t v h can. value_written o before 16 v t h can

pub returns-clause-part : goal.returns-clause-part
returns-clause-part c = part_written
