use Rattle.std.proofs.Common.{◌≡◌, get_or, rules}
use Rattle.group_view.proofs.Misplacing.{closed_more}
use Rattle.group_view.proofs.faults.closed_names.Goals as goal

pub loop-member-preserved : goal.loop-member-preserved
loop-member-preserved c =
    let ms = c.args.members.now in
    let m = c.member-item.result in
    let here : get_or ms c.loop-member.member-index m ≡ m = search rules in
    λ name. closed_more ms c.loop-member.member-index m name _ _ _ c.loop-member-test.true here (c.in_ok-add_closed.ensures name) (c.loop-member.invariant name)
