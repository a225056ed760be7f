use Rattle.std.proofs.Common.{◌≡◌, drop}
use Rattle.group_defs.specs.Groups.{groups_seen}
use Rattle.group_defs.specs.Joining.{join_infos}
use Rattle.group_defs.proofs.joining.join_infos.Given as goal

abbrev pub invariant-loop-info : goal.invariant-loop-info
invariant-loop-info l = join_infos l.number (groups_seen l.groups) (drop l.info-index l.infos) ≡ join_infos l.number (groups_seen l.fn.groups) l.infos
