use Rattle.std.proofs.Common.{sym, ap, subst}
use Rattle.chan_table.specs.Tables.{Tables}
use Rattle.desk_api.specs.declared.channel.Channel.{Channel}
use Rattle.desk_api.specs.declared.sub.Sub.{Sub}
use Rattle.srv_session.specs.State.{State}
use Rattle.srv_session.specs.Rising.{AreListed}
use Rattle.srv_session.specs.Views.{state_of}
use Rattle.srv_session.proofs.session.Session.make_room.Goals as goal

pub invariant_of-self : goal.invariant_of-self
invariant_of-self c = record {
  some = c.args.self.now.some;
  within = c.args.self.now.within;
  rising = c.args.self.now.rising;
  listed = subst (λ (t : Tables Channel Sub). AreListed c.args.self.now.monitors.items t.asks) (sym c.reserve.ensures.kept) c.args.self.now.listed;
}

pub returns-clause-state : goal.returns-clause-state
returns-clause-state c =
    let after : Tables Channel Sub → State = λ (t : Tables Channel Sub). record (state_of c.args.self.now) { channels = t.channels; requests = t.asks } in ap after c.reserve.ensures.kept
