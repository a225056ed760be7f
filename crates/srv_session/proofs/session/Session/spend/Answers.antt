use Rattle.std.proofs.Common.{refl, sym, subst}
use Rattle.srv_session.specs.Rising.{AreListed}
use Rattle.srv_session.specs.Views.{state_of}
use Rattle.srv_session.proofs.Rising.{listed_sent}
use Rattle.srv_session.proofs.session.Session.spend.Goals as goal

pub invariant_of-self : goal.invariant_of-self
invariant_of-self c = record {
  some = c.args.self.now.some;
  within = c.args.self.now.within;
  rising = c.args.self.now.rising;
  listed = subst (AreListed c.args.self.now.monitors.items) (sym c.spend_in.ensures.asks) (listed_sent c.args.self.now.monitors.items c.args.self.now.table.asks c.args.req _ refl c.args.self.now.listed);
}

pub returns-clause-state : goal.returns-clause-state
returns-clause-state c =
    let s = state_of c.args.self.now in
    λ i. record s { channels = c.spend_in.ensures.channels i; requests = c.spend_in.ensures.asks i }
