use Rattle.std.proofs.Common.{◌≤◌, length, List, []}
use Rattle.acf_rules.specs.declared.rules.Rule.{Rule}
use Rattle.acf_rules.specs.Forms.{rule_step, all_steps}
use Rattle.acf_rules.proofs.Steps.{Goes}
use Rattle.acf_rules.proofs.lists.rules_at.Given as goal

abbrev pub invariant-loop-list : goal.invariant-loop-list
invariant-loop-list l = record {
  same : Goes (List Rule) (rule_step l.rules) l.list.items l.rest (all_steps (rule_step l.rules) [] l.tokens);
  shorter : length l.rest ≤ length l.tokens;
}

abbrev pub decreases-loop-list : goal.decreases-loop-list
decreases-loop-list l = length l.rest
