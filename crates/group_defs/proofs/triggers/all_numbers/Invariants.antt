use Rattle.std.proofs.Common.{◌≡◌, ◌++◌, drop}
use Rattle.group_defs.specs.Named.{names_seen}
use Rattle.group_defs.specs.Triggers.{numbers_from}
use Rattle.group_defs.proofs.triggers.all_numbers.Given as goal

abbrev pub invariant-loop-number : goal.invariant-loop-number
invariant-loop-number l = l.numbers.items ++ numbers_from l.number (drop l.number (names_seen l.names)) ≡ numbers_from 0 (names_seen l.names)
