use Rattle.std.proofs.Common.{◌≡◌, drop}
use Rattle.std.specs.List.{enumerate_from}
use Rattle.group_defs.specs.Told.{each}
use Rattle.group_defs.specs.Groups.{groups_seen}
use Rattle.group_defs.specs.Joining.{join_record, join_texts}
use Rattle.group_defs.proofs.joining.join_texts.Given as goal

abbrev pub invariant-loop-number : goal.invariant-loop-number
invariant-loop-number l = each join_record (groups_seen l.groups) (enumerate_from l.number (drop l.number l.texts)) ≡ join_texts l.texts
