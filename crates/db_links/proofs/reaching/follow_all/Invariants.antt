use Rattle.std.proofs.Common.{◌+◌, ◌-◌, ◌*◌, length}
use Rattle.std.specs.BTreeSet.{btree_set_len}
use Rattle.db_links.specs.Walks.{IsWalk}
use Rattle.db_links.proofs.reaching.follow_all.Given as goal

abbrev pub invariant-loop-next : goal.invariant-loop-next
invariant-loop-next l = IsWalk l.links l.fn.from l.walk.reached l.walk.left.items

abbrev pub decreases-loop-next : goal.decreases-loop-next
decreases-loop-next l = 2 * (length l.links - btree_set_len l.walk.reached) + length l.walk.left.items
