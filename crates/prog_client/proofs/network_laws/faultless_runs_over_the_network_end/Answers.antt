use Rattle.prog_client.proofs.Caused.{faultless_runs_end}
use Rattle.prog_client.proofs.network_laws.faultless_runs_over_the_network_end.Goals as goal

pub returns : goal.returns
returns c = faultless_runs_end
