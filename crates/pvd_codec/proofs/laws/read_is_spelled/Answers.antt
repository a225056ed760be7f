use Rattle.pvd_codec.proofs.FoundValues.{read_is_full}
use Rattle.pvd_codec.proofs.FoundParts.{read_is_part}
use Rattle.pvd_codec.proofs.laws.read_is_spelled.Goals as goal

pub returns-clause-full : goal.returns-clause-full
returns-clause-full c = read_is_full

pub returns-clause-part : goal.returns-clause-part
returns-clause-part c = read_is_part
