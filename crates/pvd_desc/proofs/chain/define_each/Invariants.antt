use Rattle.std.proofs.Common.{◌≡◌, drop}
use Rattle.std.specs.Arc.{arc_value}
use Rattle.pvd_desc.specs.Types.{Types, laid, define_all}
use Rattle.pvd_desc.proofs.chain.define_each.Given as goal

abbrev pub invariant-loop-id : goal.invariant-loop-id
invariant-loop-id l =
    (base : Types) → define_all (drop l.id-index l.ids) (arc_value l.ty) (laid base l.changed) ≡ define_all l.ids (arc_value l.ty) (laid base l.fn.changed)
