use Rattle.std.proofs.Common.{◌≡◌, ◌++◌, drop}
use Rattle.pvd_type.specs.Tree as tree
use Rattle.pvd_type.specs.Tree.{leaf, struct, union, variant}
use Rattle.pvd_type.specs.View.{node_view, members_view}
use Rattle.pvd_value.specs.View.{row_view, optional_view, carried_view}
use Rattle.pvd_codec.specs.Written.{Begins, canonical_row, canonical_elements, CanRow, CanElements}
use Rattle.pvd_codec.proofs.writing.+put.Given as goal

abbrev pub invariant-put_row-loop-i : goal.invariant-put_row-loop-i
invariant-put_row-loop-i l =
    let values = row_view (drop l.i l.values) in
    let members = members_view (drop l.i l.members) in
    record {
      written : l.out.items ++ canonical_row l.order values members ≡ l.fn.out.items ++ canonical_row l.order (row_view l.values) (members_view l.members);
      can : CanRow values members → CanRow (row_view l.values) (members_view l.members);
      begins : Begins l.fn.out.items l.out.items;
    }

abbrev pub invariant-put_structs-elements : goal.invariant-put_structs-elements
invariant-put_structs-elements l =
    let t = tree.node struct (node_view l.node).0 (node_view l.node).1 in
    let rest = optional_view (drop l.value-index l.values) in
    record {
      written : l.out.items ++ canonical_elements l.order rest t ≡ l.initial.out.items ++ canonical_elements l.order (optional_view l.values) t;
      can : CanElements rest t → CanElements (optional_view l.values) t;
      begins : Begins l.fn.out.items l.out.items;
    }

abbrev pub invariant-put_unions-elements : goal.invariant-put_unions-elements
invariant-put_unions-elements l =
    let t = tree.node union (node_view l.node).0 (node_view l.node).1 in
    let rest = optional_view (drop l.value-index l.values) in
    record {
      written : l.out.items ++ canonical_elements l.order rest t ≡ l.initial.out.items ++ canonical_elements l.order (optional_view l.values) t;
      can : CanElements rest t → CanElements (optional_view l.values) t;
      begins : Begins l.fn.out.items l.out.items;
    }

abbrev pub invariant-put_variants-elements : goal.invariant-put_variants-elements
invariant-put_variants-elements l =
    let rest = carried_view (drop l.value-index l.values) in
    record {
      written : l.out.items ++ canonical_elements l.order rest (leaf variant) ≡ l.initial.out.items ++ canonical_elements l.order (carried_view l.values) (leaf variant);
      can : CanElements rest (leaf variant) → CanElements (carried_view l.values) (leaf variant);
      begins : Begins l.fn.out.items l.out.items;
    }
