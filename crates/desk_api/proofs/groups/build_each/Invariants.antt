use Rattle.std.specs.Prelude.{◌≡◌, map, None}
use Rattle.group_view.specs.Groups.{group_of}
use Rattle.group_view.specs.Seen.{configs_seen}
use Rattle.desk_api.specs.Loading.{first_group_fault}
use Rattle.desk_api.proofs.groups.build_each.Given as goal

-- the groups so far are those of the definitions so far, all of which could be built
abbrev pub invariant-loop-def : goal.invariant-loop-def
invariant-loop-def l = (l.groups.items ≡ map (group_of (configs_seen l.configs)) l.yielded) × (first_group_fault l.groups.items ≡ None)
