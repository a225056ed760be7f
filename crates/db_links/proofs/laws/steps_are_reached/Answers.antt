use Rattle.db_links.proofs.Lawful.{steps_reached}
use Rattle.db_links.proofs.laws.steps_are_reached.Goals as goal

pub returns : goal.returns
returns c = steps_reached
