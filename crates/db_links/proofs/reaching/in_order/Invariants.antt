use Rattle.std.proofs.Common.{◌≡◌, ◌++◌}
use Rattle.std.specs.BTreeSet.{btree_set_len}
use Rattle.db_links.proofs.reaching.in_order.Given as goal

abbrev pub invariant-loop-number : goal.invariant-loop-number
invariant-loop-number l = l.list.items ++ l.left.keys ≡ l.fn.numbers.keys

abbrev pub decreases-loop-number : goal.decreases-loop-number
decreases-loop-number l = btree_set_len l.left
