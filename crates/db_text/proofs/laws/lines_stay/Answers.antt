use Rattle.db_text.proofs.Lines.{lines_stay}
use Rattle.db_text.proofs.laws.lines_stay.Goals as goal

pub returns : goal.returns
returns c = lines_stay
