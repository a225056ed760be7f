use Rattle.std.proofs.Common.{ap, ◌∙◌}
use Rattle.std.proofs.lemmas.Result.{IfOk-weaker}
use Rattle.pvd_type.specs.View.{members_view}
use Rattle.nt_types.specs.Types.{at_end}
use Rattle.nt_types.proofs.Rows.{members_more}
use Rattle.nt_types.proofs.parts.with_member.Goals as goal

pub returns-in-Ok : goal.returns-in-Ok
returns-in-Ok c =
    let before = c.args.members.items in
    IfOk-weaker c.pushed.result _ _ (λ ms is. ap members_view is ∙ (members_more before c.in-Ok.member ∙ ap (at_end (members_view before)) c.in-Ok.ensures)) c.pushed.ensures
