use Rattle.std.proofs.Common.{◌∙◌, sym}
use Rattle.acf_rules.specs.Access.{matches, granted}
use Rattle.acf_rules.proofs.Granting.{from_nothing, rule_counts, rule_passed, all_counted}
use Rattle.acf_rules.proofs.rules.Rules.granted.Goals as goal

pub loop-rule-init : goal.loop-rule-init
loop-rule-init c = from_nothing (granted c.args.self.now c.args.level c.args.user.now c.args.host.now c.args.rules.now)

pub loop-rule-preserved-then-not-matches : goal.loop-rule-preserved-then-not-matches
loop-rule-preserved-then-not-matches c =
    rule_passed (matches c.args.self.now c.args.level c.args.user.now c.args.host.now) c.loop-rule.granted c.args.rules.now c.loop-rule.rule-index c.rule-item.result
    (granted c.args.self.now c.args.level c.args.user.now c.args.host.now c.args.rules.now) c.loop-rule-test.true c.rule-item.is (sym c.matches.ensures ∙ c.if-not-matches.true) c.loop-rule.invariant

pub loop-rule-preserved : goal.loop-rule-preserved
loop-rule-preserved c =
    rule_counts (matches c.args.self.now c.args.level c.args.user.now c.args.host.now) c.loop-rule.granted c.greater-granted.result c.args.rules.now c.loop-rule.rule-index c.rule-item.result
    (granted c.args.self.now c.args.level c.args.user.now c.args.host.now c.args.rules.now) c.loop-rule-test.true c.rule-item.is (sym c.matches.ensures ∙ c.if-not-matches.false) c.greater-granted.ensures c.loop-rule.invariant

pub returns : goal.returns
returns c =
    all_counted (matches c.args.self.now c.args.level c.args.user.now c.args.host.now) c.loop-rule.granted c.args.rules.now c.loop-rule.rule-index
    (granted c.args.self.now c.args.level c.args.user.now c.args.host.now c.args.rules.now) c.loop-rule-test.false c.loop-rule.invariant
