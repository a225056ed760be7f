use Rattle.std.proofs.Common.{◌≡◌, drop}
use Rattle.std.specs.List.{flat_map, enumerate_from}
use Rattle.group_view.specs.Seen.{entries_seen}
use Rattle.group_view.specs.Slots.{added_all, entries_by, entries_of, in_order}
use Rattle.group_view.proofs.entry.entries_of.Given as goal

abbrev pub invariant-loop-number : goal.invariant-loop-number
invariant-loop-number l =
    added_all (entries_seen l.entries.entries) (flat_map entries_by (enumerate_from l.number (drop l.number l.members))) ≡ in_order (entries_of l.members)
