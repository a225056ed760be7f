use Rattle.srv_session.proofs.Determined.{same_out}
use Rattle.srv_session.proofs.laws.one_output.Goals as goal

pub returns : goal.returns
returns c = same_out
