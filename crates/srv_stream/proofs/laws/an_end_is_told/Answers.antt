use Rattle.srv_stream.proofs.Told.{tells_end}
use Rattle.srv_stream.proofs.laws.an_end_is_told.Goals as goal

pub returns : goal.returns
returns c = tells_end
