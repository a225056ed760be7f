use Rattle.std.proofs.Common.{take}
use Rattle.std.specs.BTreeMap.{get_by}
use Rattle.std.specs.Ordering.{nat_cmp}
use Rattle.group_view.specs.Built.{reach_by, Reaches}
use Rattle.group_view.specs.Leaves.{leaves_at}
use Rattle.group_view.proofs.building.reaches_of.Given as goal

abbrev pub invariant-loop-rec : goal.invariant-loop-rec
invariant-loop-rec l = Reaches (take l.rec-index l.records) (reach_by (leaves_at l.own) l.members) (λ rec. get_by (nat_cmp rec) l.reaches)
