use Rattle.prog_listen.proofs.Lawful.{binds_once}
use Rattle.prog_listen.proofs.laws.binds_at_most_once.Goals as goal

pub returns : goal.returns
returns c = binds_once
