use Rattle.std.proofs.Common.{◌≡◌, ◌++◌, drop}
use Rattle.group_defs.specs.Named.{names_seen}
use Rattle.group_defs.specs.Checking.{names_of}
use Rattle.group_defs.proofs.checking.names_of.Given as goal

abbrev pub invariant-loop-member : goal.invariant-loop-member
invariant-loop-member l = names_seen l.names ++ names_of (drop l.member-index l.members) ≡ names_of l.members
