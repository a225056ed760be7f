use Rattle.std.proofs.Common.{◌≡◌, ◌||◌, ℕ, take}
use Rattle.std.specs.FinSet.{contains}
use Rattle.mon_shown.specs.Channels.{is_one_of}
use Rattle.mon_shown.proofs.index.Listed.add_to.Given as goal

abbrev pub invariant-loop-slot : goal.invariant-loop-slot
invariant-loop-slot l = (s : ℕ) → contains l.found s ≡ (contains l.fn.found s || is_one_of (take l.slot-index l.self.slots.items) s)
