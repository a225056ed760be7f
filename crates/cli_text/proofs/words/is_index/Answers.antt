use Rattle.cli_text.proofs.PutShapes.{no_index}
use Rattle.cli_text.proofs.words.is_index.Goals as goal

pub returns-in_default : goal.returns-in_default
returns-in_default c = no_index c.args.shape.now c.in_default.not-Plain
