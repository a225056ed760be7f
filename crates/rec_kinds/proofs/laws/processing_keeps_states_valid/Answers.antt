use Rattle.rec_kinds.proofs.Keeping.{valid_after}
use Rattle.rec_kinds.proofs.laws.processing_keeps_states_valid.Goals as goal

pub returns : goal.returns
returns c = valid_after
