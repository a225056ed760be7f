use Rattle.db_links.proofs.Alone.{one_chain}
use Rattle.db_links.proofs.laws.one_chain.Goals as goal

pub returns : goal.returns
returns c = one_chain
