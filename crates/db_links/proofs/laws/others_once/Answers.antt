use Rattle.db_links.proofs.Lawful.{others_once}
use Rattle.db_links.proofs.laws.others_once.Goals as goal

pub returns : goal.returns
returns c = others_once
