use Rattle.std.proofs.Common.{sym, subst}
use Rattle.chan_table.specs.Tables.{Tables}
use Rattle.desk_api.specs.declared.channel.Channel.{Channel}
use Rattle.desk_api.specs.declared.sub.Sub.{Sub}
use Rattle.srv_session.specs.Rising.{AreListed}
use Rattle.srv_session.proofs.Rising.{listed_without}
use Rattle.srv_session.proofs.session.Session.end_behind.Goals as goal

pub invariant_of-self : goal.invariant_of-self
invariant_of-self c =
    let ids = c.args.self.now.monitors.items in
    record {
      some = c.args.self.now.some;
      within = c.args.self.now.within;
      rising = c.args.self.now.rising;
      listed = subst (λ (t : Tables Channel Sub). AreListed ids t.asks) (sym c.remove.ensures.rest) (listed_without ids c.args.self.now.table.asks c.args.req c.args.self.now.listed);
    }
