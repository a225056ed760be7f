use Rattle.cli_within.proofs.Completing.{exchanges_complete}
use Rattle.cli_within.proofs.laws.faultless_exchanges_end.Goals as goal

pub returns : goal.returns
returns c = exchanges_complete
