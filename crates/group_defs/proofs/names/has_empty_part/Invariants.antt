use Rattle.std.proofs.Common.{◌≡◌, ℕ, ◌+◌, ◌==◌, List, [], length}
use Rattle.std.specs.List.{list_any}
use Rattle.std.specs.Option.{option_map_or}
use Rattle.group_defs.specs.Names.{parts, has_empty_part}
use Rattle.group_defs.proofs.names.has_empty_part.Given as goal

abbrev pub invariant-loop-rest : goal.invariant-loop-rest
invariant-loop-rest l = list_any (λ (part : List ℕ). length part == 0) (option_map_or (λ text. parts text.now) l.rest []) ≡ has_empty_part l.name

abbrev pub decreases-loop-rest : goal.decreases-loop-rest
decreases-loop-rest l = option_map_or (λ text. length text.now + 1) l.rest 0
