use Rattle.cli_within.proofs.Completing.{runs_complete}
use Rattle.cli_within.proofs.laws.faultless_runs_end.Goals as goal

pub returns : goal.returns
returns c = runs_complete
