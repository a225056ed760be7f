use Rattle.std.proofs.Common.{◌≡◌, ◌++◌, drop, map}
use Rattle.group_defs.specs.Checking.{group_def}
use Rattle.group_defs.proofs.building.group_defs.Given as goal

abbrev pub invariant-loop-group : goal.invariant-loop-group
invariant-loop-group l = l.defs.items ++ map group_def (drop l.group-index l.groups) ≡ map group_def l.groups
