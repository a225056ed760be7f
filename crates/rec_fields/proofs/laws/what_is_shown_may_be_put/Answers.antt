use Rattle.rec_fields.proofs.Shows.{again}
use Rattle.rec_fields.proofs.laws.what_is_shown_may_be_put.Goals as goal

pub returns : goal.returns
returns c = again
