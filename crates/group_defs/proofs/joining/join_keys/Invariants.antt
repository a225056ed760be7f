use Rattle.std.proofs.Common.{◌≡◌}
use Rattle.std.specs.BTreeMap.{btree_map_len}
use Rattle.group_defs.specs.Shown.{shown_places}
use Rattle.group_defs.specs.Joining.{join_keys}
use Rattle.group_defs.proofs.joining.join_keys.Given as goal

abbrev pub invariant-loop-place : goal.invariant-loop-place
invariant-loop-place l = join_keys l.number l.draft (shown_places l.left.entries) ≡ join_keys l.number l.fn.draft (shown_places l.fn.keys.entries)

abbrev pub decreases-loop-place : goal.decreases-loop-place
decreases-loop-place l = btree_map_len l.left
