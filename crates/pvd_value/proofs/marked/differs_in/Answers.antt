use Rattle.std.proofs.Common.{◌∙◌, ap, fold, List, ℕ}
use Rattle.std.specs.List.{filter}
use Rattle.std.specs.FinSet as set
use Rattle.pvd_type.specs.Tree.{Tree}
use Rattle.pvd_type.specs.View.{shape_view}
use Rattle.pvd_type.proofs.Leaves.{fold_is_set}
use Rattle.pvd_value.specs.View.{view}
use Rattle.pvd_value.specs.Leaves.{slots}
use Rattle.pvd_value.specs.Same.{differing}
use Rattle.pvd_value.proofs.Differences.{marked_differences}
use Rattle.pvd_value.proofs.marked.differs_in.Goals as goal

pub returns : goal.returns
returns c =
    let t = c.args.ty.now in
    let a = view c.args.a.now in
    let b = view c.args.b.now in
    let mask = c.args.mask.now in
    let ns : List ℕ = filter (set.contains mask) (differing 0 (slots (shape_view c.shape.result.now) a) (slots (shape_view c.shape.result.now) b)) in
    c.in_ok-compare.ensures ∙ (λ i. fold set.insert (c.new-found.ensures i) ns) ∙ fold_is_set ns
    ∙ ap (λ (x : Tree). set.from_list (filter (set.contains mask) (differing 0 (slots x a) (slots x b)))) c.shape.ensures.tree
    ∙ marked_differences t a b mask c.requires.a c.requires.b
