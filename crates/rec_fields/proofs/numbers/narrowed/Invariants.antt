use Rattle.std.proofs.Common.{◌≡◌, true, map, take, drop}
use Rattle.std.specs.List.{list_all}
use Rattle.rec_kinds.specs.Sorts.{within}
use Rattle.rec_fields.proofs.numbers.narrowed.Given as goal

abbrev pub invariant-loop-number : goal.invariant-loop-number
invariant-loop-number g l =
    (map g.T.Number.value l.narrow.items ≡ take l.number-index l.numbers) × (list_all (within g.T.Number.low g.T.Number.high) (drop l.number-index l.numbers) ≡ true)
