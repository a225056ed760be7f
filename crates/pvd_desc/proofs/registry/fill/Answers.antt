use Rattle.std.proofs.Common.{◌∙◌, nat_eq, nat_cmp, arith}
use Rattle.std.specs.HashMap as table
use Rattle.std.specs.BTreeMap as tree
use Rattle.pvd_desc.proofs.Maps.{moved}
use Rattle.pvd_desc.proofs.registry.fill.Goals as goal

pub loop-id-preserved : goal.loop-id-preserved
loop-id-preserved c = record {
  room = omega (arith, c.in-Some.ensures.len, c.in-Ok.ensures.spare, c.loop-id.invariant.room);
  same = λ q.
      moved (tree.get nat_cmp c.loop-id.left) (tree.get nat_cmp c.pop_first.new.self) (table.get nat_eq c.loop-id.types) (table.get nat_eq c.insert.new.self) c.in-Some.id c.in-Some.ty
      c.in-Some.ensures.value c.in-Some.ensures.updates.0 c.in-Ok.ensures.updates.0 q
      ∙ c.loop-id.invariant.same q;
}
