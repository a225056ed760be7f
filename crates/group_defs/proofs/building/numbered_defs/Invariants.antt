use Rattle.std.proofs.Common.{◌≡◌, ◌++◌, drop, map}
use Rattle.std.specs.List.{enumerate_from}
use Rattle.group_defs.specs.Named.{names_seen}
use Rattle.group_defs.specs.Checking.{member_def, member_defs}
use Rattle.group_defs.proofs.building.numbered_defs.Given as goal

abbrev pub invariant-loop-number : goal.invariant-loop-number
invariant-loop-number l =
    l.defs.items ++ map (λ m. member_def (names_seen l.names) l.some m.0 m.1) (enumerate_from l.number (drop l.number l.members))
    ≡ member_defs (names_seen l.names) l.some l.members
