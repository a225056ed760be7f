use Rattle.prog_drill.proofs.Uncounted.{by_ending}
use Rattle.prog_drill.proofs.counting.CountingDesk.unsubscribe.Goals as goal

pub invariant_of-self : goal.invariant_of-self
invariant_of-self c = record { counted = by_ending _ _ c.args.self.now.updates _ c.unsubscribe.ensures.calls c.args.self.now.counted }
