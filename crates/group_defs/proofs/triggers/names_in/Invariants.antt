use Rattle.std.proofs.Common.{◌≡◌, ◌+◌, ◌==◌, ◌++◌, [], map, length}
use Rattle.std.specs.List.{slice_split}
use Rattle.std.specs.Option.{option_map_or}
use Rattle.group_defs.specs.Triggers.{trimmed}
use Rattle.group_defs.proofs.triggers.names_in.Given as goal

abbrev pub invariant-loop-rest : goal.invariant-loop-rest
invariant-loop-rest l =
    map (λ s. s.now) l.names.items ++ map trimmed (option_map_or (λ text. slice_split (λ b. b == 44) text.now) l.rest [])
    ≡ map trimmed (slice_split (λ b. b == 44) l.text)

abbrev pub decreases-loop-rest : goal.decreases-loop-rest
decreases-loop-rest l = option_map_or (λ text. length text.now + 1) l.rest 0
