use Rattle.cli_within.proofs.AsTold.{prints_a_front}
use Rattle.cli_within.proofs.laws.a_front_is_printed.Goals as goal

pub returns : goal.returns
returns c = prints_a_front
