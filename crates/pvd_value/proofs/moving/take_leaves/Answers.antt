use Rattle.std.proofs.Common.{◌∙◌, ap, ℕ, Bool}
use Rattle.std.specs.FinSet as set
use Rattle.pvd_type.specs.Tree.{Tree}
use Rattle.pvd_value.specs.Data.{Data}
use Rattle.pvd_value.specs.View.{view}
use Rattle.pvd_value.specs.Fits.{fits_of}
use Rattle.pvd_value.specs.Leaves.{leaf_at}
use Rattle.pvd_value.specs.Merge.{merged}
use Rattle.pvd_value.proofs.Slots.{merged_leaf, merged_fits}
use Rattle.pvd_value.proofs.moving.take_leaves.Goals as goal

pub returns-clause-leaves : goal.returns-clause-leaves
returns-clause-leaves c = λ k.
    let t = c.args.ty.now in
    let a = view c.args.into.now in
    let b = view c.args.from.now in
    let mask : ℕ → Bool = set.contains c.args.mask.now in
    let made = c.swap.ensures.value ∙ ap (λ (x : Tree). merged mask 0 x a b) c.shape.ensures.tree in
    ap (leaf_at k t) made ∙ merged_leaf 16 mask t a b k c.requires.into c.requires.from

pub returns-clause-fits : goal.returns-clause-fits
returns-clause-fits c =
    let t = c.args.ty.now in
    let a = view c.args.into.now in
    let b = view c.args.from.now in
    let mask : ℕ → Bool = set.contains c.args.mask.now in
    let made = c.swap.ensures.value ∙ ap (λ (x : Tree). merged mask 0 x a b) c.shape.ensures.tree in
    ap (λ (v : Data). fits_of 16 v t) made ∙ merged_fits 16 mask 0 t a b c.requires.into c.requires.from

pub returns-clause-rest_fits : goal.returns-clause-rest_fits
returns-clause-rest_fits c =
    let t = c.args.ty.now in
    let a = view c.args.into.now in
    let b = view c.args.from.now in
    let mask : ℕ → Bool = set.contains c.args.mask.now in
    let made = c.swap.ensures.rest ∙ ap (λ (x : Tree). merged mask 0 x b a) c.shape.ensures.tree in
    ap (λ (v : Data). fits_of 16 v t) made ∙ merged_fits 16 mask 0 t b a c.requires.from c.requires.into
