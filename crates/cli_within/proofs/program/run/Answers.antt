use Rattle.cli_within.proofs.Outcomes.{runs_to}
use Rattle.cli_within.proofs.program.run.Goals as goal

pub returns : goal.returns
returns g c = runs_to _ _ _ _ _ _ c.run_words.ensures c.number.ensures
