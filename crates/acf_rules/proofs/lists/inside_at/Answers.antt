use Rattle.std.proofs.Common.{arith}
use Rattle.std.proofs.lemmas.Result.{err_from_is_err_and}
use Rattle.acf_rules.specs.declared.rules.Who.{Who}
use Rattle.acf_rules.specs.Forms.{nobody, who_step, all_steps}
use Rattle.acf_rules.proofs.Steps.{steps_fail, steps_end, steps_go_on}
use Rattle.acf_rules.proofs.lists.inside_at.Goals as goal

pub returns-in_err-more-clause-value : goal.returns-in_err-more-clause-value
returns-in_err-more-clause-value c =
    let p = err_from_is_err_and c.from_residual.result c.from_residual.ensures.1 in
    rw (p.1, p.2) (steps_fail (Who) (who_step c.args.rules.now) c.loop-who.who c.loop-who.rest.now (all_steps (who_step c.args.rules.now) nobody c.args.tokens.now)
    c.in_err-more.field-0.0 c.in_err-more.ensures.value c.loop-who.invariant.same)

pub returns-then-not-more-clause-value : goal.returns-then-not-more-clause-value
returns-then-not-more-clause-value c =
    steps_end (Who) (who_step c.args.rules.now) c.loop-who.who c.loop-who.rest.now (all_steps (who_step c.args.rules.now) nobody c.args.tokens.now)
    c.who_step.new.who c.in_ok-more.more c.in_ok-more.after.now c.if-not-more.true c.in_ok-more.ensures.value c.loop-who.invariant.same

pub loop-who-preserved : goal.loop-who-preserved
loop-who-preserved c = record {
  same =
      steps_go_on (Who) (who_step c.args.rules.now) c.loop-who.who c.loop-who.rest.now (all_steps (who_step c.args.rules.now) nobody c.args.tokens.now)
      c.who_step.new.who c.in_ok-more.more c.in_ok-more.after.now c.if-not-more.false c.in_ok-more.ensures.value c.in_ok-more.ensures.shorter c.loop-who.invariant.same;
  shorter = omega (arith, c.in_ok-more.ensures.shorter, c.loop-who.invariant.shorter);
}
