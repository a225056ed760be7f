use Rattle.std.proofs.Common.{◌≡◌, drop}
use Rattle.json.specs.Value.{members_view}
use Rattle.group_defs.specs.Shown.{shown_names}
use Rattle.group_defs.specs.Order.{by_name, by_name_after}
use Rattle.group_defs.proofs.order.by_name.Given as goal

abbrev pub invariant-loop-member : goal.invariant-loop-member
invariant-loop-member l = by_name_after (shown_names l.found.entries) (members_view (drop l.member-index l.member-items)) ≡ by_name (members_view l.member-items)
