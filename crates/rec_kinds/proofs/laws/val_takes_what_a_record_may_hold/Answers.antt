use Rattle.rec_kinds.proofs.Telling.{val_exact}
use Rattle.rec_kinds.proofs.laws.val_takes_what_a_record_may_hold.Goals as goal

pub returns : goal.returns
returns c = val_exact
