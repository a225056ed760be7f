use Rattle.std.proofs.Common.{arith, List, []}
use Rattle.std.proofs.lemmas.Result.{err_from_is_err_and}
use Rattle.acf_rules.specs.declared.rules.Rule.{Rule}
use Rattle.acf_rules.specs.Forms.{rule_step, all_steps}
use Rattle.acf_rules.proofs.Steps.{steps_fail, steps_end, steps_go_on}
use Rattle.acf_rules.proofs.lists.rules_at.Goals as goal

pub returns-in_err-more-clause-value : goal.returns-in_err-more-clause-value
returns-in_err-more-clause-value c =
    let p = err_from_is_err_and c.from_residual.result c.from_residual.ensures.1 in
    rw (p.1, p.2) (steps_fail (List Rule) (rule_step c.args.rules.now) c.loop-list.list.items c.loop-list.rest.now (all_steps (rule_step c.args.rules.now) [] c.args.tokens.now)
    c.in_err-more.field-0.0 c.in_err-more.ensures.value c.loop-list.invariant.same)

pub returns-then-not-more-clause-value : goal.returns-then-not-more-clause-value
returns-then-not-more-clause-value c =
    steps_end (List Rule) (rule_step c.args.rules.now) c.loop-list.list.items c.loop-list.rest.now (all_steps (rule_step c.args.rules.now) [] c.args.tokens.now)
    c.rule_step.new.list.items c.in_ok-more.more c.in_ok-more.after.now c.if-not-more.true c.in_ok-more.ensures.value c.loop-list.invariant.same

pub loop-list-preserved : goal.loop-list-preserved
loop-list-preserved c = record {
  same =
      steps_go_on (List Rule) (rule_step c.args.rules.now) c.loop-list.list.items c.loop-list.rest.now (all_steps (rule_step c.args.rules.now) [] c.args.tokens.now)
      c.rule_step.new.list.items c.in_ok-more.more c.in_ok-more.after.now c.if-not-more.false c.in_ok-more.ensures.value c.in_ok-more.ensures.shorter c.loop-list.invariant.same;
  shorter = omega (arith, c.in_ok-more.ensures.shorter, c.loop-list.invariant.shorter);
}
