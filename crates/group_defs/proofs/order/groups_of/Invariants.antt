use Rattle.std.proofs.Common.{◌≡◌}
use Rattle.std.specs.BTreeMap.{btree_map_len}
use Rattle.json.specs.Value.{value_view}
use Rattle.group_defs.specs.Order.{objects_in, found_in, groups_of}
use Rattle.group_defs.specs.Shown.{shown_names, shown_groups}
use Rattle.group_defs.proofs.Objects.{with_groups}
use Rattle.group_defs.proofs.order.groups_of.Given as goal

abbrev pub invariant-loop-name : goal.invariant-loop-name
invariant-loop-name l = found_in (with_groups (shown_groups l.groups.items) (objects_in (shown_names l.left.entries))) ≡ groups_of (value_view l.value)

abbrev pub decreases-loop-name : goal.decreases-loop-name
decreases-loop-name l = btree_map_len l.left
