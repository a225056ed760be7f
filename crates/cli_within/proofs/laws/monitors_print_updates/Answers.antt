use Rattle.cli_within.proofs.AsTold.{monitors_print}
use Rattle.cli_within.proofs.laws.monitors_print_updates.Goals as goal

pub returns : goal.returns
returns c = monitors_print
