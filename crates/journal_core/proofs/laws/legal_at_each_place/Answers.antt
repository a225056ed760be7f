use Rattle.histories.proofs.Judged.{legal_places}
use Rattle.journal_core.specs.Legality.{MayFollow}
use Rattle.journal_core.proofs.laws.legal_at_each_place.Goals as goal

pub returns : goal.returns
returns c configs opening entries = legal_places (MayFollow configs opening) entries
