use Rattle.std.proofs.Common.{◌≡◌, true, map, take}
use Rattle.std.specs.List.{list_all}
use Rattle.rec_kinds.specs.Sorts.{within}
use Rattle.rec_fields.proofs.numbers.widened.Given as goal

abbrev pub invariant-loop-number : goal.invariant-loop-number
invariant-loop-number g l =
    (l.wide.items ≡ map g.T.Number.value (take l.number-index l.numbers)) × (list_all (within g.T.Number.low g.T.Number.high) l.wide.items ≡ true)
