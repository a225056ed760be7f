use Rattle.std.proofs.Common.{◌≡◌, ◌++◌, map, drop}
use Rattle.std.specs.List.{filter_map}
use Rattle.group_defs.specs.Named.{names_seen}
use Rattle.group_defs.specs.Triggers.{number_of}
use Rattle.group_defs.proofs.triggers.numbers_of.Given as goal

abbrev pub invariant-loop-name : goal.invariant-loop-name
invariant-loop-name l =
    l.numbers.items ++ filter_map (number_of (names_seen l.names)) (map (λ s. s.now) (drop l.name-index l.triggered))
    ≡ filter_map (number_of (names_seen l.names)) (map (λ s. s.now) l.triggered)
