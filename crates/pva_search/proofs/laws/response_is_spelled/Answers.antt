use Rattle.pva_search.proofs.Spelled.{response_is_read, response_spells}
use Rattle.pva_search.proofs.laws.response_is_spelled.Goals as goal

pub returns-clause-read : goal.returns-clause-read
returns-clause-read c = response_is_read

pub returns-clause-spelled : goal.returns-clause-spelled
returns-clause-spelled c = response_spells
