use Rattle.desk_core.proofs.Lived.{pop_lives}
use Rattle.shared_tests.proofs.scenes.popped.Goals as goal

pub returns : goal.returns
returns g c = pop_lives _ _ c.args.sub.now.slot c.pop.result c.pop.ensures.calls c.requires
