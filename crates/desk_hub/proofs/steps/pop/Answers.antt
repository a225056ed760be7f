use Rattle.desk_hub.proofs.Popping.{pops_all}
use Rattle.desk_hub.proofs.steps.pop.Goals as goal

pub returns-clause-pops : goal.returns-clause-pops
returns-clause-pops c = pops_all c.args.subs.now c.pop.new.self c.args.slot c.pop.result c.pop.ensures.popped c.pop.ensures.others c.pop.ensures.stand
