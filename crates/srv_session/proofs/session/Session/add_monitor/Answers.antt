use Rattle.std.proofs.Common.{◌≡◌, true, List, ℕ, sym, ◌∙◌, ap, subst}
use Rattle.chan_table.specs.Tables.{Tables}
use Rattle.desk_api.specs.declared.channel.Channel.{Channel}
use Rattle.desk_api.specs.declared.sub.Sub.{Sub}
use Rattle.srv_session.specs.State.{State}
use Rattle.srv_session.specs.Rising.{AreListed, is_rising, with_id}
use Rattle.srv_session.specs.Views.{state_of}
use Rattle.srv_session.proofs.Rising.{listed_with, rising_with}
use Rattle.srv_session.proofs.session.Session.add_monitor.Goals as goal

pub invariant_of-self : goal.invariant_of-self
invariant_of-self c =
    let ids = c.args.self.now.monitors.items in
    record {
      some = c.args.self.now.some;
      within = c.args.self.now.within;
      rising = subst (λ (l : List ℕ). is_rising l ≡ true) (sym c.list.ensures) (rising_with c.args.req ids c.args.self.now.rising);
      listed =
          subst (λ (l : List ℕ). AreListed l c.add.new.self.asks) (sym c.list.ensures)
          (subst (λ (t : Tables Channel Sub). AreListed (with_id c.args.req ids) t.asks) (sym c.add.ensures) (listed_with ids c.args.self.now.table.asks c.args.req _ c.args.self.now.listed));
    }

pub returns-clause-state : goal.returns-clause-state
returns-clause-state c =
    let after : Tables Channel Sub → State = λ (t : Tables Channel Sub). record (state_of c.args.self.now) { channels = t.channels; requests = t.asks } in ap after c.add.ensures
