use Rattle.std.proofs.Common.{◌∙◌, sym, ap, arith, List, [], Ok}
use Rattle.std.proofs.lemmas.Result.{err_from_is_err_and}
use Rattle.acf_rules.specs.Access.{Name}
use Rattle.acf_rules.specs.Forms.{is_known, name_step, all_steps}
use Rattle.acf_rules.proofs.Steps.{steps_fail, steps_end, steps_go_on}
use Rattle.acf_rules.proofs.lists.names_at.Goals as goal

pub returns-in_err-more-clause-value : goal.returns-in_err-more-clause-value
returns-in_err-more-clause-value c =
    let p = err_from_is_err_and c.from_residual.result c.from_residual.ensures.1 in
    rw (p.1, p.2) (steps_fail (List Name) (name_step (is_known c.args.known)) c.loop-names.names.items c.loop-names.rest.now (all_steps (name_step (is_known c.args.known)) [] c.args.tokens.now)
    c.in_err-more.field-0.0 c.in_err-more.ensures.value c.loop-names.invariant.same)

pub returns-then-not-more-clause-value : goal.returns-then-not-more-clause-value
returns-then-not-more-clause-value c =
    steps_end (List Name) (name_step (is_known c.args.known)) c.loop-names.names.items c.loop-names.rest.now (all_steps (name_step (is_known c.args.known)) [] c.args.tokens.now)
    c.name_step.new.names.items c.in_ok-more.more c.in_ok-more.after.now c.if-not-more.true c.in_ok-more.ensures.value c.loop-names.invariant.same
    ∙ ap (λ (names : List Name). Ok (names, c.in_ok-more.after.now)) (sym c.from_vec.ensures)

pub loop-names-preserved : goal.loop-names-preserved
loop-names-preserved c = record {
  same =
      steps_go_on (List Name) (name_step (is_known c.args.known)) c.loop-names.names.items c.loop-names.rest.now (all_steps (name_step (is_known c.args.known)) [] c.args.tokens.now)
      c.name_step.new.names.items c.in_ok-more.more c.in_ok-more.after.now c.if-not-more.false c.in_ok-more.ensures.value c.in_ok-more.ensures.shorter c.loop-names.invariant.same;
  shorter = omega (arith, c.in_ok-more.ensures.shorter, c.loop-names.invariant.shorter);
}
