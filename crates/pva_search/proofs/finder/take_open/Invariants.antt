use Rattle.std.proofs.Common.{◌≡◌, ◌+◌, ◌-◌, ◌≤◌, length}
use Rattle.pva_search.specs.Finding.{open_in}
use Rattle.pva_search.specs.Steps.{channel_bytes}
use Rattle.pva_search.proofs.finder.take_open.Given as goal

abbrev pub invariant-loop-i : goal.invariant-loop-i
invariant-loop-i l = record {
  count : l.count ≡ length (open_in l.servers l.next (l.i - l.next));
  few : l.count ≤ l.i - l.next;
  room : l.room + length (channel_bytes l.names (open_in l.servers l.next (l.i - l.next))) ≡ 1359;
}
