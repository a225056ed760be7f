use Rattle.std.proofs.Common.{ap, arith, refl, Ok}
use Rattle.std.proofs.lemmas.Result.{err_from_is_err_and}
use Rattle.acf_rules.specs.declared.rules.Rules.{Rules}
use Rattle.acf_rules.specs.Forms.{Tokens, ◌>>=◌, no_rules, file_step, file_at, all_steps}
use Rattle.acf_rules.proofs.Steps.{fails_on, steps_fail, steps_end, steps_go_on}
use Rattle.acf_rules.proofs.file.file_at.Goals as goal

pub returns-in_err-more : goal.returns-in_err-more
returns-in_err-more c =
    let p = err_from_is_err_and c.from_residual.result c.from_residual.ensures.1 in
    let whole = all_steps file_step no_rules c.args.tokens.now in
    let stops = steps_fail Rules file_step c.loop-rules.rules c.loop-rules.rest.now whole c.in_err-more.field-0.0 c.in_err-more.ensures.value c.loop-rules.invariant.same in
    rw (p.1, p.2) (fails_on (Rules × Tokens) Rules (λ r. r >>= λ x. Ok x.0) c.in_err-more.field-0.0 whole (file_at c.args.tokens.now) (λ e. refl) refl stops)

pub returns-then-not-more : goal.returns-then-not-more
returns-then-not-more c =
    ap (λ r. r >>= λ x. Ok x.0) (steps_end Rules file_step c.loop-rules.rules c.loop-rules.rest.now (all_steps file_step no_rules c.args.tokens.now)
    c.file_step.new.rules c.in_ok-more.more c.in_ok-more.after.now c.if-not-more.true c.in_ok-more.ensures.value c.loop-rules.invariant.same)

pub loop-rules-preserved : goal.loop-rules-preserved
loop-rules-preserved c =
    let less = c.in_ok-more.ensures.shorter c.if-not-more.false in
    record {
      same =
          steps_go_on Rules file_step c.loop-rules.rules c.loop-rules.rest.now (all_steps file_step no_rules c.args.tokens.now)
          c.file_step.new.rules c.in_ok-more.more c.in_ok-more.after.now c.if-not-more.false c.in_ok-more.ensures.value less c.loop-rules.invariant.same;
      shorter = omega (arith, less, c.loop-rules.invariant.shorter);
    }

pub loop-rules-smaller : goal.loop-rules-smaller
loop-rules-smaller c = omega (arith, c.in_ok-more.ensures.shorter c.if-not-more.false)
