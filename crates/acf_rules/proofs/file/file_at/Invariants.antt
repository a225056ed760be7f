use Rattle.std.proofs.Common.{◌≤◌, length}
use Rattle.acf_rules.specs.declared.rules.Rules.{Rules}
use Rattle.acf_rules.specs.Forms.{file_step, all_steps, no_rules}
use Rattle.acf_rules.proofs.Steps.{Goes}
use Rattle.acf_rules.proofs.file.file_at.Given as goal

abbrev pub invariant-loop-rules : goal.invariant-loop-rules
invariant-loop-rules l = record {
  same : Goes (Rules) (file_step) l.rules l.rest (all_steps (file_step) no_rules l.tokens);
  shorter : length l.rest ≤ length l.tokens;
}

abbrev pub decreases-loop-rules : goal.decreases-loop-rules
decreases-loop-rules l = length l.rest
