use Rattle.prog_drill.proofs.Uncounted.{by_put}
use Rattle.prog_drill.proofs.counting.CountingDesk.put.Goals as goal

pub invariant_of-self : goal.invariant_of-self
invariant_of-self c = record { counted = by_put _ _ c.args.self.now.updates _ _ c.put.ensures.calls c.args.self.now.counted }
