use Rattle.std.proofs.Common.{◌≡◌, drop}
use Rattle.pvd_value.specs.View.{row_view, optional_view, carried_view}
use Rattle.pvd_value.specs.Same.{same_row}
use Rattle.pvd_value.proofs.same.+same.Given as goal

abbrev pub invariant-same_rows-loop-i : goal.invariant-same_rows-loop-i
invariant-same_rows-loop-i l = same_row (row_view (drop l.i l.a)) (row_view (drop l.i l.b)) ≡ same_row (row_view l.a) (row_view l.b)

abbrev pub invariant-same_optional-loop-i : goal.invariant-same_optional-loop-i
invariant-same_optional-loop-i l = same_row (optional_view (drop l.i l.a)) (optional_view (drop l.i l.b)) ≡ same_row (optional_view l.a) (optional_view l.b)

abbrev pub invariant-same_variants-loop-i : goal.invariant-same_variants-loop-i
invariant-same_variants-loop-i l = same_row (carried_view (drop l.i l.a)) (carried_view (drop l.i l.b)) ≡ same_row (carried_view l.a) (carried_view l.b)
