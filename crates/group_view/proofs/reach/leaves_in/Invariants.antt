use Rattle.std.proofs.Common.{◌≡◌, ◌<◌, length, drop, fold}
use Rattle.std.specs.FinSet as set
use Rattle.std.specs.List.{flat_map, AllByRecursion}
use Rattle.group_view.specs.Leaves.{leaves_at}
use Rattle.group_view.proofs.reach.leaves_in.Given as goal

abbrev pub invariant-loop-number : goal.invariant-loop-number
invariant-loop-number l =
    (fold set.insert l.found (flat_map (leaves_at l.own) (drop l.number-index l.numbers)) ≡ fold set.insert set.empty (flat_map (leaves_at l.own) l.numbers))
    × AllByRecursion (λ n. n < length l.own) (drop l.number-index l.numbers)
