use Rattle.std.proofs.Common.{◌≤◌, length}
use Rattle.acf_rules.specs.declared.rules.Who.{Who}
use Rattle.acf_rules.specs.Forms.{who_step, all_steps, nobody}
use Rattle.acf_rules.proofs.Steps.{Goes}
use Rattle.acf_rules.proofs.lists.inside_at.Given as goal

abbrev pub invariant-loop-who : goal.invariant-loop-who
invariant-loop-who l = record {
  same : Goes Who (who_step l.rules) l.who l.rest (all_steps (who_step l.rules) nobody l.tokens);
  shorter : length l.rest ≤ length l.tokens;
}

abbrev pub decreases-loop-who : goal.decreases-loop-who
decreases-loop-who l = length l.rest
