use Rattle.pvd_codec.proofs.PartAgain.{part_is_read, one_part, written_part_is_read}
use Rattle.pvd_codec.proofs.laws.value_parts.Goals as goal

pub returns-clause-only : goal.returns-clause-only
returns-clause-only c = part_is_read

pub returns-clause-unique : goal.returns-clause-unique
returns-clause-unique c = one_part

pub returns-clause-read_back : goal.returns-clause-read_back
returns-clause-read_back c = written_part_is_read
