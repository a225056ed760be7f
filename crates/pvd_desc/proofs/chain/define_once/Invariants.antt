use Rattle.std.proofs.Common.{◌≡◌, drop, true, ℕ, Some}
use Rattle.std.specs.Arc.{arc_value}
use Rattle.std.specs.FinMap.{get}
use Rattle.std.specs.FinSet as set
use Rattle.pvd_desc.specs.Types.{Types, laid, define_all}
use Rattle.pvd_desc.proofs.chain.define_once.Given as goal

abbrev pub invariant-ids : goal.invariant-ids
invariant-ids l = record {
  left : (base : Types) → define_all (drop l.id-index l.ids) (arc_value l.ty) (laid base l.changed) ≡ define_all l.ids (arc_value l.ty) (laid base l.fn.changed);
  there : (base : Types) (q : ℕ) → set.contains l.done q ≡ true → get (laid base l.changed) q ≡ Some (arc_value l.ty);
}
