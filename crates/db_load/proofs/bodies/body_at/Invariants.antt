use Rattle.std.proofs.Common.{◌≤◌, ◌+◌, length}
use Rattle.db_load.specs.Forms.{body_at}
use Rattle.db_load.proofs.Within.{BodyGoes}
use Rattle.db_load.proofs.bodies.body_at.Given as goal

abbrev pub invariant-loop-infos : goal.invariant-loop-infos
invariant-loop-infos l = record {
  same : BodyGoes l.kind l.fields.items l.infos.items l.rest (body_at l.kind (length l.tokens + 1) l.tokens);
  shorter : length l.rest ≤ length l.tokens;
}

abbrev pub decreases-loop-infos : goal.decreases-loop-infos
decreases-loop-infos l = length l.rest
