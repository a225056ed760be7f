use Rattle.std.proofs.Common.{ℕ, refl, ap, arith}
use Rattle.json.specs.Value.{members_view}
use Rattle.group_defs.specs.Order.{in_order, in_order_after}
use Rattle.group_defs.specs.Shown.{shown_places}
use Rattle.group_defs.proofs.Orderly.{in_order_more}
use Rattle.group_defs.proofs.order.in_order.Goals as goal

pub loop-index-init : goal.loop-index-init
unfolding in_order
loop-index-init c = ap (λ es. in_order_after 0 (shown_places es) (members_view c.deref-member-items.result.now)) c.new-found.ensures.empty

pub loop-index-preserved : goal.loop-index-preserved
loop-index-preserved c =
    in_order_more c.deref-member-items.result.now c.loop-index.index c.member-item.result (omega arith) c.member-item.is
    c.loop-index.found.entries c.insert.new.self.entries c.place_of-place.result _ _ refl (ap (λ (n : ℕ). (c.member-item.result.0.now, n)) c.place_of-place.ensures)
    c.in_ok-insert.ensures.entries c.loop-index.invariant
