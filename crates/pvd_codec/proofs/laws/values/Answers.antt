use Rattle.pvd_codec.proofs.OneValue.{full_is_read, one_full, written_full_is_read}
use Rattle.pvd_codec.proofs.laws.values.Goals as goal

pub returns-clause-only : goal.returns-clause-only
returns-clause-only c = full_is_read

pub returns-clause-unique : goal.returns-clause-unique
returns-clause-unique c = one_full

pub returns-clause-read_back : goal.returns-clause-read_back
returns-clause-read_back c = written_full_is_read
