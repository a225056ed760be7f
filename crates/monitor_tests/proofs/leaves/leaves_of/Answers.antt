use Rattle.std.proofs.Common.{◌∙◌, ap}
use Rattle.std.specs.Ordering.{nat_cmp}
use Rattle.std.specs.FinSet.{FinSet, intersection}
use Rattle.pvd_type.specs.Numbers.{leaves}
use Rattle.mon_queue.specs.Told.{are_leaves}
use Rattle.mon_queue.proofs.Rings.{both_leaves, all_leaves}
use Rattle.monitor_tests.proofs.leaves.leaves_of.Goals as goal

pub returns : goal.returns
returns c =
    let t = c.args.ty.now in
    let others = c.in_ok-bits.field-0 in
    ap (are_leaves t) (c.meet.ensures ∙ ap (λ (s : FinSet nat_cmp). intersection s others) (c.in_ok-mask.ensures {u = tt}))
    ∙ both_leaves t (leaves t) others (all_leaves t)
