use Rattle.pva_search.proofs.Spelled.{search_is_read, search_spells}
use Rattle.pva_search.proofs.laws.search_is_spelled.Goals as goal

pub returns-clause-read : goal.returns-clause-read
returns-clause-read c = search_is_read

pub returns-clause-spelled : goal.returns-clause-spelled
returns-clause-spelled c = search_spells
