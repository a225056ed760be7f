use Rattle.std.proofs.Common.{◌≡◌, ◌∙◌, sym, ap, Option, Some, None, option_map, refl}
use Rattle.std.specs.Prelude.{is_some}
use Rattle.pvd_type.specs.Tree.{Tree}
use Rattle.pvd_type.proofs.Leaves.{in_leaves}
use Rattle.pvd_value.specs.View.{view}
use Rattle.pvd_value.specs.Leaves.{leaf_at}
use Rattle.pvd_value.proofs.Slots.{leaf_known}
use Rattle.pvd_value.proofs.leaves.leaf.Goals as goal

is_some_map : {A B : Type 0} (f : A → B) (o : Option A) → is_some (option_map f o) ≡ is_some o
is_some_map f None = refl
is_some_map f (Some x) = refl

pub returns-clause-some : goal.returns-clause-some
returns-clause-some c =
    let value = view c.args.value.now in
    sym (is_some_map (λ v. view v.now) c.leaf_below.result) ∙ ap is_some c.leaf_below.ensures
    ∙ ap (λ (t : Tree). is_some (leaf_at c.args.number t value)) c.shape.ensures.tree
    ∙ leaf_known 16 value c.args.ty.now c.args.number c.requires ∙ sym (in_leaves c.args.ty.now c.args.number)
