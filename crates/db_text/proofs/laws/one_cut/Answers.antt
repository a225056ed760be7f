use Rattle.db_text.proofs.Slices.{one_cut}
use Rattle.db_text.proofs.laws.one_cut.Goals as goal

pub returns : goal.returns
returns c = one_cut
