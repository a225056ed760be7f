use Rattle.group_view.proofs.Ready.{over_ready}
use Rattle.group_view.proofs.laws.valid_states_are_ready.Goals as goal

pub returns : goal.returns
returns c = λ configs states g over valid. over_ready configs states valid g.members over
