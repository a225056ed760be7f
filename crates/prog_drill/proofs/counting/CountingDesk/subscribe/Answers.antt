use Rattle.prog_drill.proofs.Uncounted.{by_subscribe}
use Rattle.prog_drill.proofs.counting.CountingDesk.subscribe.Goals as goal

pub invariant_of-self : goal.invariant_of-self
invariant_of-self c = record { counted = by_subscribe _ _ c.args.self.now.updates _ _ _ _ c.subscribe.ensures.calls c.args.self.now.counted }
