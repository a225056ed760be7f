use Rattle.std.proofs.Common.{◌∷◌, ◌++◌, [], sym, subst}
use Rattle.std.specs.Ordering.{nat_cmp}
use Rattle.std.specs.FinSet.{FinSet}
use Rattle.pvd_value.specs.View.{view}
use Rattle.pvd_value.specs.declared.value.PvValue.{PvValue}
use Rattle.mon_shown.specs.Viewing.{IsView, AreViews}
use Rattle.mon_shown.specs.declared.viewed.View.{View}
use Rattle.mon_shown.proofs.Viewing.{one_more}
use Rattle.mon_shown.proofs.viewed.Viewed.keep.Goals as goal

pub returns : goal.returns
returns g c = λ shows states new are.
    let more : View g.row.C.Denot = record { channel = c.args.channel; mask = c.in_ok-mask.mask; value = c.in_ok-value.value } in
    let kept : IsView (shows c.args.channel) states c.in_ok-mask.mask (view c.in_ok-value.value) =
    subst (λ (p : FinSet nat_cmp × PvValue). IsView (shows c.args.channel) states p.0 (view p.1)) {x = (c.args.mask.now, c.args.value.now)} (λ i. (sym c.in_ok-mask.ensures i, sym c.in_ok-value.ensures i)) new in
    subst (AreViews shows states) {x = c.args.self.now.views.items ++ more ∷ []} (sym c.in_ok-push.ensures.items) (one_more shows states c.args.self.now.views.items are more kept)
