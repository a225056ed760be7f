use Rattle.std.proofs.Common.{◌≡◌, ◌++◌, take, drop}
use Rattle.std.specs.List.{flat_map}
use Rattle.pvd_codec.specs.Written.{Begins, canonical_single, CanSingle, CanEach}
use Rattle.pvd_codec.proofs.scalars_writing.write_all.Given as goal

abbrev pub invariant-loop-value : goal.invariant-loop-value
invariant-loop-value g l = record {
  written : l.out.items ≡ l.fn.out.items ++ flat_map (λ x. canonical_single l.order (g.T.WriteScalar.single x)) (take l.value-index l.values);
  can : CanEach (λ x. CanSingle (g.T.WriteScalar.single x)) (drop l.value-index l.values) → CanEach (λ x. CanSingle (g.T.WriteScalar.single x)) l.values;
  begins : Begins l.fn.out.items l.out.items;
}
