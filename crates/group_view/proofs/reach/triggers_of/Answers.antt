use Rattle.std.proofs.Common.{◌≡◌, get_or, rules}
use Rattle.group_view.proofs.Reaching.{triggers_more}
use Rattle.group_view.proofs.reach.triggers_of.Goals as goal

pub loop-member-preserved : goal.loop-member-preserved
loop-member-preserved c = λ rec.
    let ms = c.args.members.now in
    let m = c.member-item.result in
    let here : get_or ms c.loop-member.member-index m ≡ m = search rules in
    triggers_more ms c.loop-member.member-index m rec _ _ _ c.loop-member-test.true here (c.in_ok-add_triggers.ensures rec) (c.loop-member.invariant rec)
