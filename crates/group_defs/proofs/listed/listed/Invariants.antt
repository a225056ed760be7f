use Rattle.std.proofs.Common.{◌≡◌, ◌++◌, map, string_bytes}
use Rattle.group_defs.specs.Groups.{groups_seen}
use Rattle.group_defs.specs.Checking.{listed}
use Rattle.group_defs.proofs.listed.listed.Given as goal

abbrev pub invariant-loop-name : goal.invariant-loop-name
invariant-loop-name l = l.groups.items ++ listed (map (λ e. (string_bytes e.0, e.1)) l.name-iterator) ≡ listed (groups_seen l.fn.drafts)
