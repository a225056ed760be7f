use Rattle.std.proofs.Common.{Option, refl, sym, ◌∙◌, ap, subst}
use Rattle.std.specs.FinMap.{get}
use Rattle.chan_table.specs.Tables.{Tables}
use Rattle.desk_api.specs.Calls.{Calls}
use Rattle.desk_api.specs.declared.channel.Channel.{Channel}
use Rattle.desk_api.specs.declared.sub.Sub.{Sub}
use Rattle.srv_session.specs.State.{State, Asked, slot_of}
use Rattle.srv_session.specs.Calls.{AreLiving}
use Rattle.srv_session.specs.Rows.{AreEndingsOf}
use Rattle.srv_session.specs.Views.{state_of}
use Rattle.srv_session.proofs.Ending.{ends_none}
use Rattle.srv_session.specs.Rising.{AreListed}
use Rattle.srv_session.proofs.Rising.{listed_without}
use Rattle.srv_session.proofs.Tables.{got_removed}
use Rattle.srv_session.proofs.session.Session.end_request.Goals as goal

pub returns-in_default-clause-calls : goal.returns-in_default-clause-calls
returns-in_default-clause-calls g c =
    let seat = g.D.Desk.seat c.args.desk.now in
    subst (λ (o : Option Asked). Calls seat seat (AreEndingsOf (slot_of o))) (sym c.in_default.is ∙ c.remove.ensures.value) (ends_none seat c.has_legal_history.ensures)

pub returns-in_default-clause-state : goal.returns-in_default-clause-state
returns-in_default-clause-state g c =
    let after : Tables Channel Sub → State = λ (t : Tables Channel Sub). record (state_of c.args.self.now) { channels = t.channels; requests = t.asks } in ap after c.remove.ensures.rest

pub end_taken-requires-clause-gone : goal.end_taken-requires-clause-gone
end_taken-requires-clause-gone g c =
    ap (λ (t : Tables Channel Sub). get t.asks c.args.req) c.remove.ensures.rest ∙ got_removed c.args.self.now.table.asks c.args.req

pub end_taken-requires-clause-living : goal.end_taken-requires-clause-living
end_taken-requires-clause-living g c =
    subst (λ (o : Option Asked). AreLiving (g.D.Desk.seat c.args.desk.now).log (slot_of o)) (sym c.remove.ensures.value ∙ c.in-Some.is) c.requires

pub returns-clause-calls : goal.returns-clause-calls
returns-clause-calls g c =
    subst (λ (o : Option Asked). Calls (g.D.Desk.seat c.args.desk.now) (g.D.Desk.seat c.end_taken.new.desk) (AreEndingsOf (slot_of o))) (sym c.in-Some.is ∙ c.remove.ensures.value) c.end_taken.ensures.calls

pub returns-clause-state : goal.returns-clause-state
returns-clause-state g c =
    let after : Tables Channel Sub → State = λ (t : Tables Channel Sub). record (state_of c.args.self.now) { channels = t.channels; requests = t.asks } in c.end_taken.ensures.state ∙ ap after c.remove.ensures.rest

pub invariant_of-self : goal.invariant_of-self
invariant_of-self g c =
    let ids = c.args.self.now.monitors.items in
    record {
      some = c.args.self.now.some;
      within = c.args.self.now.within;
      rising = c.args.self.now.rising;
      listed = subst (λ (t : Tables Channel Sub). AreListed ids t.asks) (sym c.remove.ensures.rest) (listed_without ids c.args.self.now.table.asks c.args.req c.args.self.now.listed);
    }
