use Rattle.std.proofs.Common.{sym, ◌∙◌, ap, subst}
use Rattle.std.specs.Prelude.{option_map}
use Rattle.pvd_type.specs.Check.{IsType}
use Rattle.pvd_type.specs.View.{shape_view}
use Rattle.srv_session.proofs.Typed.{part_is_type}
use Rattle.srv_session.proofs.fields.node_at.Goals as goal

pub of_checked-requires : goal.of_checked-requires
of_checked-requires c =
    subst IsType (sym (c.in_ok-clone_in.ensures {u = tt}))
    (part_is_type c.args.ty.now c.in-Some.number (shape_view c.in-Some-shape_at.shape.now) c.shape-whole.ensures.checked
    (sym c.shape_at.ensures.shape ∙ ap (option_map (λ s. shape_view s.now)) c.in-Some-shape_at.is))
