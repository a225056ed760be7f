use Rattle.std.proofs.Common.{◌∙◌, [], ◌∷◌, refl, ap, subst}
use Rattle.pvd_type.specs.Tree.{Tree}
use Rattle.pvd_value.specs.View.{view}
use Rattle.pvd_value.specs.Leaves.{leaf_at}
use Rattle.pvd_value.specs.LeafValues.{leaf_values}
use Rattle.mon_queue.specs.Runs.{posted, fresh}
use Rattle.mon_queue.specs.Unread.{Holds}
use Rattle.mon_shown.proofs.Kept.{begun}
use Rattle.mon_shown.proofs.watching.Watching.begin.Goals as goal

pub returns-in-Ok : goal.returns-in-Ok
returns-in-Ok g c =
    let channel = g.V.Views.shows c.args.views.now c.args.channel in
    let mask = c.args.requested in
    let ty = c.type_of-ty.ensures in
    let queue_ty = c.in-Ok.ensures.ty ∙ ty in
    record {
      is_of = record { there = c.requires.there; ty = queue_ty };
      channel_is = refl;
      requested_is = refl;
      keeps = begun channel mask c.args.size c.args.states.now _ queue_ty refl c.in-Ok.ensures.size
          (λ j asked. ap (λ v. leaf_at j channel.ty (view v)) c.in_ok-shown.ensures ∙ c.in_ok-part.ensures.shown j asked)
          (subst (λ (t : Tree). Holds c.in-Ok.queue (fresh (posted mask (leaf_values t (view c.in_ok-shown.shown))) ∷ [])) ty c.in-Ok.ensures.holds);
    }
