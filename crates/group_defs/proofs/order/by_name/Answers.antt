use Rattle.std.proofs.Common.{refl, ap, arith}
use Rattle.json.specs.Value.{members_view}
use Rattle.group_defs.specs.Order.{by_name, by_name_after}
use Rattle.group_defs.specs.Shown.{shown_names}
use Rattle.group_defs.proofs.Orderly.{by_name_more}
use Rattle.group_defs.proofs.order.by_name.Goals as goal

pub loop-member-init : goal.loop-member-init
unfolding by_name
loop-member-init c = ap (λ es. by_name_after (shown_names es) (members_view c.deref-member-items.result.now)) c.new-found.ensures.empty

pub loop-member-preserved : goal.loop-member-preserved
loop-member-preserved c =
    by_name_more c.deref-member-items.result.now c.loop-member.member-index c.member-item.result (omega arith) c.member-item.is
    c.loop-member.found.entries c.insert.new.self.entries _ _ refl c.in_ok-insert.ensures.entries c.loop-member.invariant
