use Rattle.std.proofs.Common.{◌∙◌, ap, codes}
use Rattle.std.proofs.lemmas.Result.{IfOk-weaker}
use Rattle.clap.specs.Words.{App, with_rule}
use Rattle.cli_within.specs.Words.{option_rule}
use Rattle.cli_within.proofs.words.network_command.Goals as goal

pub returns-clause-app : goal.returns-clause-app
returns-clause-app c =
    let a1 = c.in_ok-command.ensures.app ∙ ap (λ (a : App). with_rule a (option_rule (codes "server"))) c.in_ok-options_command.ensures.app in
    let a2 = c.in_ok-command-2.ensures.app ∙ ap (λ (a : App). with_rule a (option_rule (codes "search"))) a1 in
    IfOk-weaker c.with_option-3.result _ _ (λ r h. h ∙ ap (λ (a : App). with_rule a (option_rule (codes "rounds"))) a2) c.with_option-3.ensures.app

pub returns-clause-whole : goal.returns-clause-whole
returns-clause-whole c =
    let w1 = c.in_ok-command.ensures.whole ∙ c.in_ok-options_command.ensures.whole in
    let w2 = c.in_ok-command-2.ensures.whole ∙ w1 in
    IfOk-weaker c.with_option-3.result _ _ (λ r h. h ∙ w2) c.with_option-3.ensures.whole
