use Rattle.prog_listen.proofs.Lawful.{every_end}
use Rattle.prog_listen.proofs.laws.every_end_has_its_cause.Goals as goal

pub returns : goal.returns
returns c = every_end
