use Rattle.std.proofs.Common.{◌∙◌, ap, fold, List, ℕ, false}
use Rattle.std.specs.FinSet as set
use Rattle.pvd_type.specs.Tree.{Tree}
use Rattle.pvd_type.specs.View.{shape_view}
use Rattle.pvd_type.proofs.Leaves.{fold_is_set}
use Rattle.pvd_value.specs.Leaves.{leaves_under, marked_leaves}
use Rattle.pvd_value.proofs.leaves.leaves_of.Goals as goal

pub returns-clause-ok : goal.returns-clause-ok
returns-clause-ok c =
    let ns : List ℕ = leaves_under (set.contains c.args.bits.now) false 0 (shape_view c.shape.result.now) in
    c.in_ok-mark.ensures ∙ (λ i. fold set.insert (c.new-found.ensures i) ns) ∙ fold_is_set ns
    ∙ ap (λ (t : Tree). marked_leaves t c.args.bits.now) c.shape.ensures.tree
