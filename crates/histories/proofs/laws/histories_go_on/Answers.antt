use Rattle.histories.proofs.Stories.{go_on}
use Rattle.histories.proofs.laws.histories_go_on.Goals as goal

pub returns : goal.returns
returns g c = go_on _ _ _
