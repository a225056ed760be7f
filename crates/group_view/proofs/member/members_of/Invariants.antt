use Rattle.std.proofs.Common.{◌≡◌, map}
use Rattle.group_view.specs.Groups.{member_of}
use Rattle.group_view.specs.Seen.{configs_seen}
use Rattle.group_view.proofs.member.members_of.Given as goal

abbrev pub invariant-loop-def : goal.invariant-loop-def
invariant-loop-def l = l.members.items ≡ map (member_of (configs_seen l.configs)) l.yielded
