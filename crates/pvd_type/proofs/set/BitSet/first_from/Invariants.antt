use Rattle.std.proofs.Common.{◌≡◌, ℕ, ◌<◌, ◌≤◌, ◌-◌, false}
use Rattle.std.specs.FinSet as set
use Rattle.pvd_type.proofs.set.BitSet.first_from.Given as goal

abbrev pub decreases-loop-bit : goal.decreases-loop-bit
decreases-loop-bit l = l.end - l.bit

abbrev pub invariant-loop-bit : goal.invariant-loop-bit
invariant-loop-bit l = record {
  start : l.start ≤ l.bit;
  none : (q : ℕ) → l.start ≤ q → q < l.bit → set.contains l.self q ≡ false;
}
