use Rattle.std.proofs.Common.{◌≡◌, fold}
use Rattle.std.specs.BTreeMap.{btree_map_len}
use Rattle.group_view.specs.Seen.{entries_seen, slots_seen}
use Rattle.group_view.specs.Slots.{behind_to, slots_to}
use Rattle.group_view.proofs.slots.slots_of.Given as goal

abbrev pub invariant-loop-path : goal.invariant-loop-path
invariant-loop-path l = fold (λ ss e. behind_to l.room e.0 e.1 ss) (slots_seen l.slots.items) (entries_seen l.left.entries) ≡ slots_to l.room (entries_seen l.fn.entries.entries)

abbrev pub decreases-loop-path : goal.decreases-loop-path
decreases-loop-path l = btree_map_len l.left
