use Rattle.std.proofs.Common.{◌∙◌, sym, ap, fold, List, ℕ}
use Rattle.std.specs.FinSet as set
use Rattle.pvd_type.specs.Tree.{Tree}
use Rattle.pvd_type.specs.View.{shape_view}
use Rattle.pvd_type.proofs.Leaves.{fold_is_set}
use Rattle.pvd_value.specs.View.{view}
use Rattle.pvd_value.specs.Leaves.{slots}
use Rattle.pvd_value.specs.Same.{differing}
use Rattle.pvd_value.proofs.Slots.{slots_length}
use Rattle.pvd_value.proofs.Sameness.{in_differing}
use Rattle.pvd_value.proofs.differing.differs.Goals as goal

pub returns : goal.returns
returns c = λ k.
    let t = c.args.ty.now in
    let a = view c.args.a.now in
    let b = view c.args.b.now in
    let ns : List ℕ = differing 0 (slots (shape_view c.shape.result.now) a) (slots (shape_view c.shape.result.now) b) in
    let made = c.in_ok-compare.ensures.leaves ∙ (λ i. fold set.insert (c.new-found.ensures i) ns) ∙ fold_is_set ns
    ∙ ap (λ (x : Tree). set.from_list (differing 0 (slots x a) (slots x b))) c.shape.ensures.tree in
    let tells = in_differing (slots t a) (slots t b) k (slots_length 16 a t c.requires.a ∙ sym (slots_length 16 b t c.requires.b)) in
    (λ h. tells.0 (sym (ap (λ s. set.contains s k) made) ∙ h), λ h. ap (λ s. set.contains s k) made ∙ tells.1 h)
