use Rattle.std.proofs.Common.{ap, ◌∙◌}
use Rattle.pvd_value.specs.Data.{carried}
use Rattle.pvd_value.specs.View.{view}
use Rattle.pvd_value.proofs.Rows.{view_carried}
use Rattle.group_view.proofs.piece.any_view.Goals as goal

pub returns : goal.returns
returns c =
    view_carried c.in_ok-ty.ty c.in_ok-new.field-0
    ∙ (λ i. carried (c.in_ok-ty.ensures i) ((ap view c.in_ok-new.ensures.ok ∙ c.in_ok-value.ensures) i))
