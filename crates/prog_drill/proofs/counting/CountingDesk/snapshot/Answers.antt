use Rattle.prog_drill.proofs.Uncounted.{by_snapshot}
use Rattle.prog_drill.proofs.counting.CountingDesk.snapshot.Goals as goal

pub invariant_of-self : goal.invariant_of-self
invariant_of-self c = record { counted = by_snapshot _ _ c.args.self.now.updates _ _ c.snapshot.ensures.calls c.args.self.now.counted }
