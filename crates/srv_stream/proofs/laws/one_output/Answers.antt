use Rattle.srv_stream.proofs.Told.{one_output}
use Rattle.srv_stream.proofs.laws.one_output.Goals as goal

pub returns : goal.returns
returns c = one_output
