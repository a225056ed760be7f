use Rattle.std.proofs.Common.{◌≤◌, length, List, []}
use Rattle.acf_rules.specs.Access.{Name}
use Rattle.acf_rules.specs.Forms.{is_known, name_step, all_steps}
use Rattle.acf_rules.proofs.Steps.{Goes}
use Rattle.acf_rules.proofs.lists.names_at.Given as goal

abbrev pub invariant-loop-names : goal.invariant-loop-names
invariant-loop-names l = record {
  same : Goes (List Name) (name_step (is_known l.known)) l.names.items l.rest (all_steps (name_step (is_known l.known)) [] l.tokens);
  shorter : length l.rest ≤ length l.tokens;
}

abbrev pub decreases-loop-names : goal.decreases-loop-names
decreases-loop-names l = length l.rest
