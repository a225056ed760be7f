use Rattle.prog_listen.proofs.Lawful.{faultless_finish}
use Rattle.prog_listen.proofs.laws.faultless_runs_finish.Goals as goal

pub returns : goal.returns
returns c = faultless_finish
