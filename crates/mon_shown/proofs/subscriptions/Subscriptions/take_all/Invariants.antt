use Rattle.std.proofs.Common.{◌≡◌, length}
use Rattle.mon_shown.proofs.Taking.{IsTaking}
use Rattle.mon_shown.proofs.subscriptions.Subscriptions.take_all.Given as goal

abbrev pub invariant-loop-slot : goal.invariant-loop-slot
invariant-loop-slot g l = (l.self.index ≡ l.fn.self.index) × IsTaking l.fn.self.slots.items l.fn.ready.readies.items l.self.slots.items l.readies.items

abbrev pub decreases-loop-slot : goal.decreases-loop-slot
decreases-loop-slot g l = length l.readies.items
