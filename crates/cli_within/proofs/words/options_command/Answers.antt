use Rattle.std.proofs.Common.{◌∙◌, ap, codes}
use Rattle.std.proofs.lemmas.Result.{IfOk-weaker}
use Rattle.clap.specs.Words.{App, with_rule}
use Rattle.cli_within.specs.Words.{option_rule}
use Rattle.cli_within.proofs.words.options_command.Goals as goal

pub returns-clause-app : goal.returns-clause-app
returns-clause-app c =
    let a1 = c.in_ok-command.ensures.app ∙ ap (λ (a : App). with_rule a (option_rule (codes "within"))) c.in_ok-operation_command.ensures.app in
    let a2 = c.in_ok-command-2.ensures.app ∙ ap (λ (a : App). with_rule a (option_rule (codes "macros"))) a1 in
    let a3 = c.in_ok-command-3.ensures.app ∙ ap (λ (a : App). with_rule a (option_rule (codes "idle"))) a2 in
    let a4 = c.in_ok-command-4.ensures.app ∙ ap (λ (a : App). with_rule a (option_rule (codes "piece"))) a3 in
    IfOk-weaker c.with_option-5.result _ _ (λ r h. h ∙ ap (λ (a : App). with_rule a (option_rule (codes "turns"))) a4) c.with_option-5.ensures.app

pub returns-clause-whole : goal.returns-clause-whole
returns-clause-whole c =
    let w1 = c.in_ok-command.ensures.whole ∙ c.in_ok-operation_command.ensures.whole in
    let w2 = c.in_ok-command-2.ensures.whole ∙ w1 in
    let w3 = c.in_ok-command-3.ensures.whole ∙ w2 in
    let w4 = c.in_ok-command-4.ensures.whole ∙ w3 in
    IfOk-weaker c.with_option-5.result _ _ (λ r h. h ∙ w4) c.with_option-5.ensures.whole
