use Rattle.std.proofs.Common.{[], length}
use Rattle.std.specs.HashSet.{contains_text}
use Rattle.db_load.specs.Forms.{records_from}
use Rattle.db_load.proofs.Lists.{ListGoes}
use Rattle.db_load.proofs.records.records_at.Given as goal

abbrev pub invariant-loop-rest : goal.invariant-loop-rest
invariant-loop-rest l = ListGoes (contains_text l.names) l.records.items l.rest (records_from (length l.tokens) [] l.tokens)

abbrev pub decreases-loop-rest : goal.decreases-loop-rest
decreases-loop-rest l = length l.rest
