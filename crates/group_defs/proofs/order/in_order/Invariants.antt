use Rattle.std.proofs.Common.{◌≡◌, drop}
use Rattle.json.specs.Value.{members_view}
use Rattle.group_defs.specs.Shown.{shown_places}
use Rattle.group_defs.specs.Order.{in_order, in_order_after}
use Rattle.group_defs.proofs.order.in_order.Given as goal

abbrev pub invariant-loop-index : goal.invariant-loop-index
invariant-loop-index l = in_order_after l.index (shown_places l.found.entries) (members_view (drop l.index l.member-items)) ≡ in_order (members_view l.member-items)
