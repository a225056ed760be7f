use Rattle.std.proofs.Common.{◌≡◌, ◌≤◌, ℕ, nat_eq, nat_cmp}
use Rattle.std.specs.HashMap as table
use Rattle.std.specs.BTreeMap as tree
use Rattle.pvd_desc.specs.Shared.{first_of}
use Rattle.pvd_desc.proofs.registry.fill.Given as goal

abbrev pub invariant-loop-id : goal.invariant-loop-id
invariant-loop-id l = record {
  room : tree.btree_map_len l.left ≤ table.spare l.types;
  same : (id : ℕ) → first_of (tree.get nat_cmp l.left id) (table.get nat_eq l.types id) ≡ first_of (tree.get nat_cmp l.fn.defined id) (table.get nat_eq l.fn.types id);
}

abbrev pub decreases-loop-id : goal.decreases-loop-id
decreases-loop-id l = tree.btree_map_len l.left
