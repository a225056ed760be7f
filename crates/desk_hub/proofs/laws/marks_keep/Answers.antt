use Rattle.desk_hub.proofs.Logs.{marked}
use Rattle.desk_hub.proofs.laws.marks_keep.Goals as goal

pub returns : goal.returns
returns c = λ h subs seat log mark aside k. marked h subs seat log k mark aside
