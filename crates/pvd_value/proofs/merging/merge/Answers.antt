use Rattle.std.proofs.Common.{◌≡◌, ◌∙◌, ap, ℕ, Bool, map, List}
use Rattle.std.specs.FinSet as set
use Rattle.std.specs.Vec.Iter.{into_iter_items}
use Rattle.pvd_type.specs.Tree.{Tree}
use Rattle.pvd_value.specs.Data.{Data}
use Rattle.pvd_value.specs.View.{view}
use Rattle.pvd_value.specs.Fits.{fits_of}
use Rattle.pvd_value.specs.Leaves.{leaf_at}
use Rattle.pvd_value.specs.Merge.{merged, placed}
use Rattle.pvd_value.specs.declared.value.PvValue.{PvValue}
use Rattle.pvd_value.proofs.Slots.{merged_leaf, merged_fits}
use Rattle.pvd_value.proofs.Placing.{whole_picked}
use Rattle.pvd_value.proofs.merging.merge.Goals as goal

pub returns : goal.returns
returns c =
    let t = c.args.ty.now in
    let a = view c.args.into.now in
    let b = view c.args.from.now in
    let mask : ℕ → Bool = set.contains c.args.mask.now in
    let made : view c.place.new.into ≡ merged mask 0 t a b =
    c.place.ensures.value
    ∙ ap (λ (x : Tree). placed mask 0 x a (map view (into_iter_items c.into_iter-copies.result))) c.shape.ensures.tree
    ∙ ap (λ (vs : List PvValue). placed mask 0 t a (map view vs)) c.into_iter-copies.ensures.rest
    ∙ ap (placed mask 0 t a) c.in_ok-copies_of.ensures
    ∙ whole_picked mask t a b c.requires.into c.requires.from in
    record {
      ok = made;
      leaves = λ k. ap (leaf_at k t) made ∙ merged_leaf 16 mask t a b k c.requires.into c.requires.from;
      fits = ap (λ (v : Data). fits_of 16 v t) made ∙ merged_fits 16 mask 0 t a b c.requires.into c.requires.from;
      err = tt;
    }
