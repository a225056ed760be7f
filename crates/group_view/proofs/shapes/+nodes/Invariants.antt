use Rattle.std.proofs.Common.{◌≡◌, ◌++◌, map, drop}
use Rattle.pvd_type.specs.Numbers.{numbered_fields}
use Rattle.pvd_type.specs.View.{members_view}
use Rattle.group_view.specs.Leaves.{shown_at}
use Rattle.group_view.proofs.shapes.+nodes.Given as goal

abbrev pub invariant-add_members-loop-part : goal.invariant-add_members-loop-part
invariant-add_members-loop-part l =
    l.shown.items ++ map (shown_at l.member) (numbered_fields (members_view (drop l.part-index l.members)))
    ≡ l.fn.shown.items ++ map (shown_at l.member) (numbered_fields (members_view l.members))
