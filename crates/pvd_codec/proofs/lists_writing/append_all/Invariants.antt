use Rattle.std.proofs.Common.{◌≡◌, ◌++◌, length}
use Rattle.std.specs.List.{flat_map}
use Rattle.pva_wire.specs.declared.order.Order.TheVariants.{Big}
use Rattle.pvd_codec.specs.Written.{Begins, canonical_single}
use Rattle.pvd_codec.proofs.lists_writing.append_all.Given as goal

abbrev pub invariant-loop-rest : goal.invariant-loop-rest
invariant-loop-rest g l = record {
  written : l.out.items ++ flat_map (λ x. canonical_single Big (g.T.Number.single x)) l.rest ≡ l.fn.out.items ++ flat_map (λ x. canonical_single Big (g.T.Number.single x)) l.values;
  begins : Begins l.fn.out.items l.out.items;
}

abbrev pub decreases-loop-rest : goal.decreases-loop-rest
decreases-loop-rest g l = length l.rest
