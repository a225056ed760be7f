use Rattle.std.proofs.Common.{◌≡◌, drop}
use Rattle.group_defs.specs.Shown.{shown_groups}
use Rattle.group_defs.specs.Groups.{groups_seen}
use Rattle.group_defs.specs.Joining.{join_groups}
use Rattle.group_defs.proofs.joining.join_groups.Given as goal

abbrev pub invariant-loop-object : goal.invariant-loop-object
invariant-loop-object l =
    join_groups l.number (groups_seen l.groups) (shown_groups (drop l.object-index l.objects)) ≡ join_groups l.number (groups_seen l.fn.groups) (shown_groups l.objects)
