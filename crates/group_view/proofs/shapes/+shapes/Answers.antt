use Rattle.std.proofs.Common.{◌≡◌, ◌∙◌, sym, ap, get_or, rules}
use Rattle.pvd_type.specs.View.{members_view}
use Rattle.group_view.specs.Types.{slot_fields}
use Rattle.group_view.proofs.Walks.{slots_over, joined, joined_end, members_more, shown_more}
use Rattle.group_view.proofs.shapes.+shapes.Goals as goal

pub members_of-loop-named-preserved : goal.members_of-loop-named-preserved
members_of-loop-named-preserved t c =
    let ns = c.args.slots.now in
    let n = c.named-item.result in
    let here : get_or ns c.loop-named.named-index n ≡ n = search rules in
    record {
      members = members_more ns c.loop-named.named-index n c.loop-named-test.true here c.loop-named.members.items _ _ _ c.in_ok-push.ensures.items c.in_ok-name.ensures c.in_ok-shape.ensures.shape c.loop-named.invariant.members;
      shown = shown_more ns c.loop-named.named-index n c.loop-named-test.true here c.loop-named.shown.items _ _ c.in_ok-shape.ensures.shown c.loop-named.invariant.shown;
    }

pub members_of-returns-clause-members : goal.members_of-returns-clause-members
members_of-returns-clause-members t c =
    let ms = c.loop-named.members.items in
    sym (joined_end ms)
    ∙ sym (ap (λ ss. joined (members_view ms) (slot_fields ss)) (slots_over c.args.slots.now c.loop-named.named-index c.loop-named-test.false))
    ∙ c.loop-named.invariant.members
