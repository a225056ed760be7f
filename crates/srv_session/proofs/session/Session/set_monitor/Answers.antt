use Rattle.std.proofs.Common.{refl, sym, subst}
use Rattle.srv_session.specs.Rising.{AreListed}
use Rattle.srv_session.specs.Views.{state_of}
use Rattle.srv_session.proofs.Rising.{listed_steered}
use Rattle.srv_session.proofs.session.Session.set_monitor.Goals as goal

pub invariant_of-self : goal.invariant_of-self
invariant_of-self c = record {
  some = c.args.self.now.some;
  within = c.args.self.now.within;
  rising = c.args.self.now.rising;
  listed = subst (AreListed c.args.self.now.monitors.items) (sym c.steer_in.ensures.asks) (listed_steered c.args.self.now.monitors.items c.args.self.now.table.asks c.args.req c.args.sub c.args.window _ refl c.args.self.now.listed);
}

pub returns-clause-state : goal.returns-clause-state
returns-clause-state c =
    let s = state_of c.args.self.now in
    λ i. record s { channels = c.steer_in.ensures.channels i; requests = c.steer_in.ensures.asks i }
