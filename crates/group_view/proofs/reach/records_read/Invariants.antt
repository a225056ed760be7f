use Rattle.std.proofs.Common.{◌≡◌, drop, fold}
use Rattle.std.specs.BTreeSet.{insert_key}
use Rattle.std.specs.List.{filter_map}
use Rattle.std.specs.Option.{option_and_then}
use Rattle.std.specs.Ordering.{nat_cmp}
use Rattle.std.specs.Prelude.{slice_get}
use Rattle.group_view.specs.Leaves.{read_by, records_read}
use Rattle.group_view.proofs.reach.records_read.Given as goal

abbrev pub invariant-loop-number : goal.invariant-loop-number
invariant-loop-number l =
    fold (insert_key nat_cmp) l.found.keys (filter_map (λ n. option_and_then read_by (slice_get l.members n)) (drop l.number-index l.numbers))
    ≡ records_read l.members l.numbers
