use Rattle.std.proofs.Common.{vec_len}
use Rattle.db_load.proofs.Kept.{Keeps}
use Rattle.db_load.proofs.records.last_given.Given as goal

abbrev pub invariant-loop-field : goal.invariant-loop-field
invariant-loop-field l = Keeps l.left.items l.kept.items l.fn.fields.items

abbrev pub decreases-loop-field : goal.decreases-loop-field
decreases-loop-field l = vec_len l.left
