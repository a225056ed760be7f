use Rattle.std.proofs.Common.{◌≡◌, ◌++◌}
use Rattle.std.specs.BTreeMap.{btree_map_len}
use Rattle.group_defs.specs.Joined.{members_seen}
use Rattle.group_defs.specs.Checking.{listed_members}
use Rattle.group_defs.proofs.draft.members_in_order.Given as goal

abbrev pub invariant-loop-name : goal.invariant-loop-name
invariant-loop-name l = l.members.items ++ listed_members (members_seen l.left.entries) ≡ listed_members (members_seen l.fn.found.entries)

abbrev pub decreases-loop-name : goal.decreases-loop-name
decreases-loop-name l = btree_map_len l.left
