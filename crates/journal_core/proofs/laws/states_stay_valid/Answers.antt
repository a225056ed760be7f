use Rattle.journal_core.proofs.Keeping.{valid_entry, valid_history}
use Rattle.journal_core.proofs.laws.states_stay_valid.Goals as goal

pub returns : goal.returns
returns c = record { entry = valid_entry; history = valid_history }
