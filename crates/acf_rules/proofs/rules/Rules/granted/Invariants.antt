use Rattle.std.proofs.Common.{◌≡◌, drop}
use Rattle.acf_rules.specs.Access.{greater, granted}
use Rattle.acf_rules.proofs.rules.Rules.granted.Given as goal

abbrev pub invariant-loop-rule : goal.invariant-loop-rule
invariant-loop-rule l = greater l.granted (granted l.self l.level l.user l.host (drop l.rule-index l.rules)) ≡ granted l.self l.level l.user l.host l.rules
