use Rattle.prog_server.proofs.Completing.{completes}
use Rattle.prog_server.proofs.program.faultless_runs_are_done.Goals as goal

pub returns : goal.returns
returns c = completes
