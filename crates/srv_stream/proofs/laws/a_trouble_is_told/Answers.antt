use Rattle.srv_stream.proofs.Told.{tells_trouble}
use Rattle.srv_stream.proofs.laws.a_trouble_is_told.Goals as goal

pub returns : goal.returns
returns c = tells_trouble
