use Rattle.desk_hub.proofs.Ending.{ends_all}
use Rattle.desk_hub.proofs.steps.end.Goals as goal

pub returns-clause-ends : goal.returns-clause-ends
returns-clause-ends c = ends_all c.slots_follow_the_roll.ensures.ends c.args.site.now c.args.subs.now c.clear.new.self c.args.slot c.clear.ensures.there c.clear.ensures.others c.clear.ensures.stand
