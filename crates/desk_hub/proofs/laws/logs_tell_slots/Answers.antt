use Rattle.desk_hub.proofs.Logs.{lives_where_held, typed}
use Rattle.desk_hub.proofs.laws.logs_tell_slots.Goals as goal

pub returns-clause-held : goal.returns-clause-held
returns-clause-held c = lives_where_held

pub returns-clause-typed : goal.returns-clause-typed
returns-clause-typed c = typed
