use Rattle.std.proofs.Common.{◌∙◌, ap, codes}
use Rattle.std.proofs.lemmas.Result.{IfOk-weaker}
use Rattle.clap.specs.Words.{App, new_rule, with_rule}
use Rattle.cli_within.specs.Words.{values_rule}
use Rattle.cli_within.proofs.words.client_command.Goals as goal

pub returns-clause-app : goal.returns-clause-app
returns-clause-app c =
    let a1 = c.in_ok-command.ensures.app ∙ ap (λ (a : App). with_rule a (new_rule (codes "op"))) c.in_ok-network_command.ensures.app in
    let a2 = c.in_ok-command-2.ensures.app ∙ ap (λ (a : App). with_rule a (new_rule (codes "name"))) a1 in
    IfOk-weaker c.with_values.result _ _ (λ r h. h ∙ ap (λ (a : App). with_rule a values_rule) a2) c.with_values.ensures.app

pub returns-clause-whole : goal.returns-clause-whole
returns-clause-whole c =
    let w1 = c.in_ok-command.ensures.whole ∙ c.in_ok-network_command.ensures.whole in
    let w2 = c.in_ok-command-2.ensures.whole ∙ w1 in
    IfOk-weaker c.with_values.result _ _ (λ r h. h ∙ w2) c.with_values.ensures.whole
