use Rattle.std.proofs.Common.{◌∙◌, ap, ap₂, codes}
use Rattle.std.proofs.lemmas.Result.{IfOk-weaker}
use Rattle.clap.specs.Words.{App, with_rule}
use Rattle.prog_server.specs.Words.{flag_rule, option_rule}
use Rattle.prog_server.proofs.words.server_command.Goals as goal

pub returns-clause-app : goal.returns-clause-app
returns-clause-app c =
    let a1 = c.in_ok-command.ensures.app ∙ ap (λ (a : App). with_rule a (flag_rule (codes "inetd"))) c.bare_command.ensures.app in
    let a2 = c.in_ok-command-2.ensures.app ∙ ap (λ (a : App). with_rule a (flag_rule (codes "check"))) a1 in
    let a3 = c.in_ok-command-3.ensures.app ∙ ap (λ (a : App). with_rule a (option_rule (codes "listen"))) a2 in
    let a4 = c.in_ok-command-4.ensures.app ∙ ap (λ (a : App). with_rule a (option_rule (codes "drill"))) a3 in
    let a5 = c.in_ok-command-5.ensures.app ∙ ap (λ (a : App). with_rule a (option_rule (codes "macros"))) a4 in
    let a6 = c.in_ok-command-6.ensures.app ∙ ap (λ (a : App). with_rule a (flag_rule (codes "big"))) a5 in
    let a7 = c.in_ok-command-7.ensures.app ∙ ap (λ (a : App). with_rule a (option_rule (codes "journal"))) a6 in
    let a8 = c.in_ok-command-8.ensures.app ∙ ap (λ (a : App). with_rule a (option_rule (codes "turns"))) a7 in
    let a9 = c.in_ok-command-9.ensures.app ∙ ap (λ (a : App). with_rule a (option_rule (codes "udp"))) a8 in
    let a10 = c.in_ok-command-10.ensures.app ∙ ap (λ (a : App). with_rule a (option_rule (codes "beacon"))) a9 in
    let a11 = c.in_ok-command-11.ensures.app ∙ ap (λ (a : App). with_rule a (option_rule (codes "guid"))) a10 in
    let a12 = c.in_ok-command-12.ensures.app ∙ ap (λ (a : App). with_rule a (option_rule (codes "silence"))) a11 in
    IfOk-weaker c.arg.result _ _ (λ r h. h.shape c.new.ensures.optional.1 ∙ ap₂ with_rule a12 c.new.ensures.rule) c.arg.ensures

pub returns-clause-whole : goal.returns-clause-whole
returns-clause-whole c =
    let w1 = c.in_ok-command.ensures.whole ∙ c.bare_command.ensures.whole in
    let w2 = c.in_ok-command-2.ensures.whole ∙ w1 in
    let w3 = c.in_ok-command-3.ensures.whole ∙ w2 in
    let w4 = c.in_ok-command-4.ensures.whole ∙ w3 in
    let w5 = c.in_ok-command-5.ensures.whole ∙ w4 in
    let w6 = c.in_ok-command-6.ensures.whole ∙ w5 in
    let w7 = c.in_ok-command-7.ensures.whole ∙ w6 in
    let w8 = c.in_ok-command-8.ensures.whole ∙ w7 in
    let w9 = c.in_ok-command-9.ensures.whole ∙ w8 in
    let w10 = c.in_ok-command-10.ensures.whole ∙ w9 in
    let w11 = c.in_ok-command-11.ensures.whole ∙ w10 in
    let w12 = c.in_ok-command-12.ensures.whole ∙ w11 in
    IfOk-weaker c.arg.result _ _ (λ r h. h.broken ∙ w12) c.arg.ensures
