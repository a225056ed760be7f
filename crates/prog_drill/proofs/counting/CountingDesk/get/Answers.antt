use Rattle.prog_drill.proofs.Uncounted.{by_get}
use Rattle.prog_drill.proofs.counting.CountingDesk.get.Goals as goal

pub invariant_of-self : goal.invariant_of-self
invariant_of-self c = record { counted = by_get _ _ c.args.self.now.updates _ _ _ _ c.get.ensures.calls c.args.self.now.counted }
