use Rattle.cli_within.proofs.AsTold.{prints_the_marks}
use Rattle.cli_within.proofs.laws.the_text_is_that_of_the_marks.Goals as goal

pub returns : goal.returns
returns c = prints_the_marks
