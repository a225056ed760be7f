use Rattle.pva_search.proofs.Finds.{every_search_finds}
use Rattle.pva_search.proofs.laws.every_search_finds.Goals as goal

pub returns : goal.returns
returns c = every_search_finds
