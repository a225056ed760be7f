use Rattle.std.proofs.Common.{◌≡◌, rules, sym, subst}
use Rattle.rec_kinds.proofs.Keeping.{valid_after}
use Rattle.rec_kinds.specs.Processing.{processed}
use Rattle.rec_kinds.specs.Validity.{IsValid}
use Rattle.rec_kinds.specs.declared.state.RecState.{RecState}
use Rattle.rec_kinds.proofs.processing.process.Goals as goal

pub returns-clause-valid : goal.returns-clause-valid
returns-clause-valid c =
    let config = c.args.config.now in
    let e : c.with_alarm-state.result ≡ processed config c.args.old.now c.args.action.now c.args.moment c.args.drove = search rules in
    subst (λ (s : RecState). IsValid config s) (sym e)
    (valid_after config c.args.old.now c.args.action.now c.args.moment c.args.drove c.requires.valid c.requires.may)
