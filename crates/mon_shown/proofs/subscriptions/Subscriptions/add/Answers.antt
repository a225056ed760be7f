use Rattle.std.proofs.Common.{arith}
use Rattle.mon_shown.specs.Slots.{slot_in}
use Rattle.mon_shown.proofs.Standing.{none_of}
use Rattle.mon_shown.proofs.subscriptions.Subscriptions.add.Goals as goal

pub returns-then-slot-ge-LIMIT-clause-cause : goal.returns-then-slot-ge-LIMIT-clause-cause
returns-then-slot-ge-LIMIT-clause-cause g c = λ k less. c.first_free-slot.ensures.least.below k (omega (arith, less, c.if-slot-ge-LIMIT.true))

pub fill-requires-clause-free : goal.fill-requires-clause-free
fill-requires-clause-free g c = none_of (slot_in c.args.self.now c.first_free-slot.result) c.first_free-slot.ensures.least.free

pub returns-in-Err-clause-cause : goal.returns-in-Err-clause-cause
returns-in-Err-clause-cause g c = record { slot = c.first_free-slot.result; less = omega (arith, c.if-slot-ge-LIMIT.false); free = c.first_free-slot.ensures.least.free }
