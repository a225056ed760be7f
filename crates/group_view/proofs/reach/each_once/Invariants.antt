use Rattle.std.proofs.Common.{◌≡◌, drop, fold}
use Rattle.std.specs.BTreeSet.{insert_key}
use Rattle.std.specs.Ordering.{nat_cmp}
use Rattle.group_view.specs.Leaves.{rising}
use Rattle.group_view.proofs.reach.each_once.Given as goal

abbrev pub invariant-loop-number : goal.invariant-loop-number
invariant-loop-number l = fold (insert_key nat_cmp) l.found.keys (drop l.number-index l.numbers) ≡ rising l.numbers
