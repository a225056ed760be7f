use Rattle.std.proofs.Common.{◌≡◌, ℕ, ◌*◌, ◌<◌, ◌&&◌, false}
use Rattle.std.specs.FinSet as set
use Rattle.pvd_type.proofs.set.BitSet.meets.Given as goal

abbrev pub invariant-loop-place : goal.invariant-loop-place
invariant-loop-place l = (k : ℕ) → k < 8 * l.place → (set.contains l.self k && set.contains l.other k) ≡ false
