use Rattle.std.proofs.Common.{◌∙◌, ap, fold, List, ℕ}
use Rattle.std.specs.FinSet as set
use Rattle.pvd_type.specs.View.{shape_view}
use Rattle.pvd_type.specs.Numbers.{numbered, leaves, leaves_from}
use Rattle.pvd_type.proofs.Leaves.{fold_is_set}
use Rattle.pvd_type.proofs.pv_type.PvType.leaves.Goals as goal

pub returns : goal.returns
returns c =
    let ns : List ℕ = leaves_from 0 (numbered (shape_view c.shape.result.now)) in
    c.in_ok-collect.ensures.leaves ∙ (λ i. fold set.insert (c.new-found.ensures i) ns) ∙ fold_is_set ns ∙ ap leaves c.shape.ensures.tree
