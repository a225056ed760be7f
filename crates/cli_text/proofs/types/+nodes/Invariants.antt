use Rattle.std.proofs.Common.{◌≡◌, ◌++◌, drop}
use Rattle.pvd_type.specs.View.{members_view}
use Rattle.cli_text.specs.Lines.{nodes_among}
use Rattle.cli_text.proofs.types.+nodes.Given as goal

abbrev pub invariant-print_nodes-loop-i : goal.invariant-print_nodes-loop-i
invariant-print_nodes-loop-i l = record {
  lines : l.out.items ++ nodes_among l.fn.path.items (members_view (drop l.i l.members)) ≡ l.fn.out.items ++ nodes_among l.fn.path.items (members_view l.members);
  path : l.path.items ≡ l.fn.path.items;
}
