use Rattle.std.proofs.Common.{◌≡◌, ℕ, true, ◌<◌}
use Rattle.std.specs.FinSet.{contains}
use Rattle.mon_queue.proofs.joining.is_within.Given as goal

-- of the numbers before this one the other set has all that the set has
abbrev pub invariant-loop-bit : goal.invariant-loop-bit
invariant-loop-bit l = (k : ℕ) → k < l.bit → contains l.set k ≡ true → contains l.other k ≡ true
