use Rattle.desk_hub.proofs.Logs.{new_desk}
use Rattle.desk_hub.proofs.laws.a_new_desk_keeps.Goals as goal

pub returns : goal.returns
returns c = new_desk
