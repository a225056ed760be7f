use Rattle.std.proofs.Common.{◌≡◌, drop, fold}
use Rattle.std.specs.FinSet as set
use Rattle.group_view.proofs.reach.add_leaves.Given as goal

abbrev pub invariant-loop-leaf : goal.invariant-loop-leaf
invariant-loop-leaf l = fold set.insert l.found (drop l.leaf-index l.leaves) ≡ fold set.insert l.fn.found l.leaves
