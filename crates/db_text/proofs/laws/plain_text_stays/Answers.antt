use Rattle.db_text.proofs.Plains.{plain_stays}
use Rattle.db_text.proofs.laws.plain_text_stays.Goals as goal

pub returns : goal.returns
returns c = plain_stays
