use Rattle.srv_session.proofs.Drained.{pumped_dry}
use Rattle.srv_session.proofs.laws.pumps_drain.Goals as goal

pub returns : goal.returns
returns c = pumped_dry
