use Rattle.std.proofs.Common.{◌≡◌, ◌+◌, ◌≤◌, ◌&&◌, ℕ, ltb}
use Rattle.std.specs.FinSet as fin
use Rattle.group_view.proofs.parts.counted_from.Given as goal

abbrev pub invariant-loop-k : goal.invariant-loop-k
invariant-loop-k l = record {
  counted : (q : ℕ) → fin.contains l.marked q ≡ (ltb q l.k && fin.contains l.mask (l.start + q));
  within : l.k ≤ l.count;
}
