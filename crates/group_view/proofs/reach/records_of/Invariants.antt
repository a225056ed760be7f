use Rattle.std.proofs.Common.{◌≡◌, drop, fold, option_map}
use Rattle.std.specs.BTreeSet.{insert_key}
use Rattle.std.specs.List.{filter_map}
use Rattle.std.specs.Ordering.{nat_cmp}
use Rattle.group_view.specs.Leaves.{records_of}
use Rattle.group_view.proofs.reach.records_of.Given as goal

abbrev pub invariant-loop-member : goal.invariant-loop-member
invariant-loop-member l =
    fold (insert_key nat_cmp) l.found.keys (filter_map (λ m. option_map (λ l. l.rec) m.link) (drop l.member-index l.members)) ≡ records_of l.members
