use Rattle.cli_within.proofs.AsTold.{marks_are_told}
use Rattle.cli_within.proofs.laws.marks_are_told.Goals as goal

pub returns : goal.returns
returns c = marks_are_told
