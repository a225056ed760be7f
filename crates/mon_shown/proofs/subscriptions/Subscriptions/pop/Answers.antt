use Rattle.std.proofs.Common.{refl}
use Rattle.mon_shown.proofs.Standing.{stand_kept, kinds_at, popped_kind}
use Rattle.mon_shown.proofs.subscriptions.Subscriptions.pop.Goals as goal

pub returns-clause-stand : goal.returns-clause-stand
returns-clause-stand g c = λ has shows t.
    stand_kept has shows _ _ refl (kinds_at c.args.self.now.slots.items c.pop_at.new.slots.items c.args.slot (popped_kind _ _ _ c.pop_at.ensures.popped) c.pop_at.ensures.others) t
