use Rattle.acf_rules.proofs.Granting.{is_greatest}
use Rattle.acf_rules.proofs.rules.Rules.allowed.Goals as goal

pub returns-in-Some-clause-greatest : goal.returns-in-Some-clause-greatest
returns-in-Some-clause-greatest c =
    is_greatest c.args.self.now c.args.group.now c.args.level c.args.user.now c.args.host.now c.in-Some.rules.now c.granted.result c.in-Some.ensures c.granted.ensures
