use Rattle.std.proofs.Common.{◌≡◌, ◌++◌, [], drop}
use Rattle.pvd_type.specs.View.{shape_view, members_view}
use Rattle.pvd_value.specs.View.{row_view, optional_view, carried_view}
use Rattle.cli_text.specs.Texts.{led, member_texts, row_texts}
use Rattle.cli_text.proofs.values.+print.Given as goal

abbrev pub invariant-print_members-loop-i : goal.invariant-print_members-loop-i
invariant-print_members-loop-i l =
    l.out.items ++ led l.front (member_texts (row_view (drop l.i l.values)) (members_view (drop l.i l.members)))
    ≡ l.fn.out.items ++ led [] (member_texts (row_view l.values) (members_view l.members))

abbrev pub invariant-print_each-elements : goal.invariant-print_each-elements
invariant-print_each-elements l =
    l.out.items ++ led l.front (row_texts (optional_view (drop l.value-index l.values)) (shape_view l.shape))
    ≡ l.fn.out.items ++ led [] (row_texts (optional_view l.values) (shape_view l.shape))

abbrev pub invariant-print_each_variant-elements : goal.invariant-print_each_variant-elements
invariant-print_each_variant-elements l =
    l.out.items ++ led l.front (row_texts (carried_view (drop l.parcel-index l.values)) (shape_view l.shape))
    ≡ l.fn.out.items ++ led [] (row_texts (carried_view l.values) (shape_view l.shape))
