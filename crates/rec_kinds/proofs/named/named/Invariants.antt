use Rattle.std.proofs.Common.{◌≡◌, drop, map}
use Rattle.rec_kinds.specs.Named.{first_named, named_row}
use Rattle.rec_kinds.proofs.named.named.Given as goal

abbrev pub invariant-loop-row : goal.invariant-loop-row
invariant-loop-row g l =
    first_named l.name (map named_row (drop l.row-index l.rows)) ≡ first_named l.name (map named_row l.rows)
