use Rattle.srv_session.proofs.Windowed.{windows_hold}
use Rattle.srv_session.proofs.laws.windows_hold.Goals as goal

pub returns : goal.returns
returns c = windows_hold
