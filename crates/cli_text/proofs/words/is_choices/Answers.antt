use Rattle.cli_text.proofs.PutShapes.{no_choices}
use Rattle.cli_text.proofs.words.is_choices.Goals as goal

pub returns-in_default : goal.returns-in_default
returns-in_default c = no_choices c.args.shape.now c.in_default.not-List
