use Rattle.db_load.proofs.Relations.{one_loading}
use Rattle.db_load.proofs.laws.one_loading.Goals as goal

pub returns : goal.returns
returns c = one_loading
