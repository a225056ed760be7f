use Rattle.db_text.proofs.Expansions.{one_expansion}
use Rattle.db_text.proofs.laws.one_expansion.Goals as goal

pub returns : goal.returns
returns c = one_expansion
