use Rattle.journal_core.proofs.Growing.{same_state, next_state, kept_append}
use Rattle.journal_core.proofs.laws.histories_grow.Goals as goal

pub returns : goal.returns
returns c = record { states = same_state; next = next_state; kept = kept_append }
