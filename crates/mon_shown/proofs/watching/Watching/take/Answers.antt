use Rattle.std.proofs.Common.{refl, ap}
use Rattle.pvd_value.specs.View.{view}
use Rattle.pvd_value.specs.LeafValues.{leaf_values}
use Rattle.mon_queue.specs.Unread.{type_of}
use Rattle.mon_shown.proofs.watching.Watching.take.Goals as goal

pub returns : goal.returns
returns g c = record {
  shown_is = ap (λ v. leaf_values (type_of c.args.self.now.queue) (view v)) c.replace.ensures.after;
  unread_is = c.apply.ensures.unread;
  size = c.apply.ensures.size;
  ty = c.apply.ensures.ty;
  requested = refl;
  channel = refl;
}
