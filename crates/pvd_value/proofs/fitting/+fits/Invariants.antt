use Rattle.std.proofs.Common.{◌≡◌, drop}
use Rattle.pvd_type.specs.Tree as tree
use Rattle.pvd_type.specs.Tree.{leaf, struct, union, variant}
use Rattle.pvd_type.specs.View.{node_view, members_view}
use Rattle.pvd_value.specs.View.{row_view, optional_view, carried_view}
use Rattle.pvd_value.specs.Fits.{row_fits, all_fit}
use Rattle.pvd_value.proofs.fitting.+fits.Given as goal

abbrev pub invariant-row_fits-loop-i : goal.invariant-row_fits-loop-i
invariant-row_fits-loop-i l = row_fits l.left (row_view (drop l.i l.values)) (members_view (drop l.i l.members)) ≡ row_fits l.left (row_view l.values) (members_view l.members)

abbrev pub invariant-structs_fit-loop-value : goal.invariant-structs_fit-loop-value
invariant-structs_fit-loop-value l =
    let t = tree.node struct (node_view l.node).0 (node_view l.node).1 in
    all_fit l.left (optional_view (drop l.value-index l.values)) t ≡ all_fit l.left (optional_view l.values) t

abbrev pub invariant-unions_fit-loop-value : goal.invariant-unions_fit-loop-value
invariant-unions_fit-loop-value l =
    let t = tree.node union (node_view l.node).0 (node_view l.node).1 in
    all_fit l.left (optional_view (drop l.value-index l.values)) t ≡ all_fit l.left (optional_view l.values) t

abbrev pub invariant-variants_fit-loop-value : goal.invariant-variants_fit-loop-value
invariant-variants_fit-loop-value l = all_fit l.left (carried_view (drop l.value-index l.values)) (leaf variant) ≡ all_fit l.left (carried_view l.values) (leaf variant)
