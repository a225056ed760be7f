use Rattle.std.proofs.Common.{◌-◌, length, refl, subst, sym}
use Rattle.std.specs.Prelude.{IsNone}
use Rattle.mon_queue.specs.Told.{is_update_of}
use Rattle.mon_queue.proofs.Rings.{all_at, first_is}
use Rattle.mon_queue.proofs.queue.MonQueue.prepare.Goals as goal

pub returns-in_default-clause-ready : goal.returns-in_default-clause-ready
returns-in_default-clause-ready c = record {
  room = c.newest_of_full.ensures.room (subst IsNone (sym c.in_default.is) refl);
  alone = c.first_update.ensures.overrun;
  is_update = first_is c.args.self.now.ty c.args.post c.first_update.result c.requires.post c.first_update.ensures.changed c.first_update.ensures.overrun c.first_update.ensures.value;
}

pub joined-requires-clause-newest : goal.joined-requires-clause-newest
joined-requires-clause-newest c =
    let q = c.args.self.now in
    all_at (is_update_of q.ty) q.ring.items (length q.ring.items - 1) c.in-Some.newest.now q.updates c.in-Some.ensures.newest
