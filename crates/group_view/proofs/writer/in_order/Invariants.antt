use Rattle.std.proofs.Common.{◌≡◌, ◌++◌, map}
use Rattle.std.specs.BTreeMap.{btree_map_len}
use Rattle.group_view.proofs.writer.in_order.Given as goal

abbrev pub invariant-loop-writer : goal.invariant-loop-writer
invariant-loop-writer l = l.writers.items ++ map (λ e. e.1) l.left.entries ≡ map (λ e. e.1) l.fn.found.entries

abbrev pub decreases-loop-writer : goal.decreases-loop-writer
decreases-loop-writer l = btree_map_len l.left
