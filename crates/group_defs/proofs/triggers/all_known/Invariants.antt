use Rattle.std.proofs.Common.{◌≡◌, map, drop, not, is_some}
use Rattle.std.specs.List.{list_any}
use Rattle.group_defs.specs.Named.{names_seen}
use Rattle.group_defs.specs.Triggers.{number_of}
use Rattle.group_defs.proofs.triggers.all_known.Given as goal

abbrev pub invariant-loop-name : goal.invariant-loop-name
invariant-loop-name l =
    list_any (λ name. not (is_some (number_of (names_seen l.names) name))) (map (λ s. s.now) (drop l.name-index l.triggered))
    ≡ list_any (λ name. not (is_some (number_of (names_seen l.names) name))) (map (λ s. s.now) l.triggered)
