use Rattle.std.proofs.Common.{◌∙◌, refl, ap, sym}
use Rattle.std.specs.Prelude.{option_map}
use Rattle.pvd_type.specs.Tree.{Tree}
use Rattle.mon_queue.specs.Told.{told_by}
use Rattle.mon_shown.proofs.watching.Watching.pop.Goals as goal

pub returns-clause-popped : goal.returns-clause-popped
returns-clause-popped g c = record {
  keeps = λ w size s runs k. record {
    ty_is = c.pop.ensures.ty ∙ k.ty_is;
    requested_is = k.requested_is;
    size_is = c.pop.ensures.size ∙ k.size_is;
    shown_is = k.shown_is;
    holds = c.pop.ensures.runs runs k.holds;
  };
  told = λ w size s runs k. ap (λ (t : Tree). option_map (told_by t) c.pop.result) (sym k.ty_is) ∙ c.pop.ensures.oldest runs k.holds;
  ty = c.pop.ensures.ty;
  requested = refl;
  channel = refl;
}
