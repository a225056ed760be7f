use Rattle.std.proofs.Common.{◌≡◌, ◌+◌, drop}
use Rattle.pvd_type.specs.View.{members_view}
use Rattle.pvd_value.specs.View.{row_view}
use Rattle.pvd_value.specs.Blank.{blank_row, fixed_bytes_in}
use Rattle.pvd_value.proofs.Rows.{joined}
use Rattle.pvd_value.proofs.blanking.+blank.Given as goal

abbrev pub invariant-blank_members-loop-member : goal.invariant-blank_members-loop-member
invariant-blank_members-loop-member l =
    (joined (row_view l.values.items) (blank_row (members_view (drop l.member-index l.members))) ≡ blank_row (members_view l.members))
    × (l.budget.left + fixed_bytes_in (members_view l.members) ≡ l.fn.budget.left + fixed_bytes_in (members_view (drop l.member-index l.members)))
