use Rattle.std.proofs.Common.{◌∙◌, ◌++◌, ap}
use Rattle.std.proofs.lemmas.List.{take_all}
use Rattle.std.specs.List.{flat_map}
use Rattle.pvd_codec.specs.Written.{canonical_single}
use Rattle.pvd_codec.proofs.Growing.{begins_on}
use Rattle.pvd_codec.proofs.Elements.{on_err}
use Rattle.pvd_codec.proofs.scalars_writing.write_all.Goals as goal

pub returns-in_err-write-clause-begins : goal.returns-in_err-write-clause-begins
returns-in_err-write-clause-begins g c = on_err c.from_residual.result (begins_on _ _ _ c.loop-value.invariant.begins c.in_err-write.ensures.begins)

pub returns-clause-written : goal.returns-clause-written
returns-clause-written g c =
    c.loop-value.invariant.written ∙ ap (λ xs. c.args.out.now.items ++ flat_map (λ x. canonical_single c.args.order (g.T.WriteScalar.single x)) xs) (take_all c.loop-value.value-index c.args.values.now c.loop-value-test.false)
