use Rattle.std.specs.Prelude.{◌≡◌, ◌<◌, ◌≤◌, ◌-◌, ℕ, length, slice_index_or}
use Rattle.chan_table.proofs.index.Index+u32+V.least_absent.Given as goal

abbrev pub invariant-loop-low : goal.invariant-loop-low
invariant-loop-low g l = record {
  order : l.low ≤ l.high;
  inside : l.high ≤ length l.self.entries.items;
  same : (i : ℕ) (d : ℕ × g.row.V.Denot) → i < l.low → (slice_index_or l.self.entries.items i d).0 ≡ i;
  above : (i : ℕ) (d : ℕ × g.row.V.Denot) → l.high ≤ i → i < length l.self.entries.items → i < (slice_index_or l.self.entries.items i d).0;
}

abbrev pub decreases-loop-low : goal.decreases-loop-low
decreases-loop-low g l = l.high - l.low
