use Rattle.std.proofs.Common.{◌≡◌, ◌∙◌, arith, ap, length}
use Rattle.pvd_type.specs.View.{shape_view}
use Rattle.pvd_type.specs.Numbers.{numbered, sizes_of}
use Rattle.pvd_type.specs.declared.pv_type.Whole.{Whole}
use Rattle.pvd_type.proofs.Counts.{few_numbers}
use Rattle.pvd_type.proofs.Sizes.{length-sizes_of}
use Rattle.pvd_type.proofs.pv_type.PvType.sizes.Goals as goal

pub returns-clause-few : goal.returns-clause-few
returns-clause-few c =
    let t = shape_view c.self.inside.whole.value.shape in
    let is : c.deref-2.result.now ≡ sizes_of (numbered t) = c.deref-2.ensures.value ∙ ap (λ (w : Whole). w.sizes.items) c.deref.ensures ∙ c.self.invariant.1 in
    omega (arith, few_numbers t c.self.invariant.0, ap length is, length-sizes_of (numbered t))
