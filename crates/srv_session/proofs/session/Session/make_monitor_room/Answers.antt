use Rattle.std.proofs.Common.{◌≡◌, true, List, ℕ, sym, subst}
use Rattle.srv_session.specs.Rising.{AreListed, is_rising}
use Rattle.srv_session.proofs.session.Session.make_monitor_room.Goals as goal

pub invariant_of-self : goal.invariant_of-self
invariant_of-self c = record {
  some = c.args.self.now.some;
  within = c.args.self.now.within;
  rising = subst (λ (l : List ℕ). is_rising l ≡ true) (sym c.make_room.ensures.ids) c.args.self.now.rising;
  listed = subst (λ (l : List ℕ). AreListed l c.args.self.now.table.asks) (sym c.make_room.ensures.ids) c.args.self.now.listed;
}
