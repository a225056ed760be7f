use Rattle.std.proofs.Common.{◌<◌, refl, sym, ◌∙◌, ap, subst}
use Rattle.std.specs.FinMap.{get, len}
use Rattle.chan_table.specs.Tables.{Tables}
use Rattle.desk_api.specs.declared.channel.Channel.{Channel}
use Rattle.desk_api.specs.declared.sub.Sub.{Sub}
use Rattle.srv_session.specs.State.{State, Requests, on_only, slots_of}
use Rattle.srv_session.specs.Calls.{AreLiving}
use Rattle.srv_session.specs.Views.{state_of, output_of}
use Rattle.srv_session.proofs.Ending.{closing_first, closing_next, closing_last, first_on, first_lives}
use Rattle.srv_session.proofs.Rising.{listed_taken}
use Rattle.srv_session.proofs.Tables.{fewer, got_removed, sid_not_on}
use Rattle.srv_session.proofs.session.Session.end_requests_on.Goals as goal

pub loop-taken-init : goal.loop-taken-init
loop-taken-init g c =
    closing_first (g.D.Desk.seat c.args.desk.now) (state_of c.args.self.now) (output_of c.args.self.now) c.args.sid c.has_legal_history.ensures c.requires

pub loop-taken-smaller : goal.loop-taken-smaller
loop-taken-smaller g c =
    let taken = c.in-Some.ensures {u = tt} in
    let before : Requests = c.loop-taken.self.table.asks in
    let after : Tables Channel Sub → State = λ (t : Tables Channel Sub). record (state_of c.loop-taken.self) { channels = t.channels; requests = t.asks } in
    subst (λ (z : State). len z.requests < len before) (sym (c.end_taken.ensures.state ∙ ap after taken.rest)) (fewer before c.in-Some.taken.0 c.in-Some.taken.1 taken.ask)

pub end_taken-requires-clause-gone : goal.end_taken-requires-clause-gone
end_taken-requires-clause-gone g c =
    let taken = c.in-Some.ensures {u = tt} in
    let before : Requests = c.loop-taken.self.table.asks in
    ap (λ (t : Tables Channel Sub). get t.asks c.in-Some.taken.0) taken.rest ∙ got_removed before c.in-Some.taken.0

pub end_taken-requires-clause-living : goal.end_taken-requires-clause-living
end_taken-requires-clause-living g c =
    let taken = c.in-Some.ensures {u = tt} in
    let before : Requests = c.loop-taken.self.table.asks in
    let log = (g.D.Desk.seat c.loop-taken.desk).log in
    first_lives log c.in-Some.taken.1.sub _ (subst (AreLiving log) (first_on before c.args.sid c.in-Some.taken.0 c.in-Some.taken.1 taken.ask taken.least) c.loop-taken.invariant.ends.living_)

pub loop-taken-preserved : goal.loop-taken-preserved
loop-taken-preserved g c =
    let taken = c.in-Some.ensures {u = tt} in
    let before : Requests = c.loop-taken.self.table.asks in
    let after : Tables Channel Sub → State = λ (t : Tables Channel Sub). record (state_of c.loop-taken.self) { channels = t.channels; requests = t.asks } in
    closing_next before c.args.sid c.in-Some.taken.0 c.in-Some.taken.1 taken.ask taken.least (g.D.Desk.seat c.args.desk.now) (state_of c.args.self.now) (output_of c.args.self.now)
    (g.D.Desk.seat c.loop-taken.desk) (g.D.Desk.seat c.end_taken.new.desk) (state_of c.loop-taken.self) (state_of c.end_taken.new.self) (output_of c.loop-taken.self) (output_of c.end_taken.new.self) refl c.loop-taken.invariant
    c.end_taken.ensures.calls c.end_taken.ensures.base (c.end_taken.ensures.state ∙ ap after taken.rest) c.end_taken.ensures.output

pub returns-clause-calls : goal.returns-clause-calls
returns-clause-calls g c =
    let none = c.in_default.ensures {u = tt} in
    (closing_last (g.D.Desk.seat c.args.desk.now) (state_of c.args.self.now) (output_of c.args.self.now) c.args.sid (g.D.Desk.seat c.loop-taken.desk) (state_of c.loop-taken.self) (output_of c.loop-taken.self) c.loop-taken.invariant
    (λ q. sid_not_on c.loop-taken.self.table.asks c.args.sid q (none.least.none q))).0

pub returns-clause-state : goal.returns-clause-state
returns-clause-state g c =
    let none = c.in_default.ensures {u = tt} in
    let after : Tables Channel Sub → State = λ (t : Tables Channel Sub). record (state_of c.loop-taken.self) { channels = t.channels; requests = t.asks } in
    ap after none.none
    ∙ (closing_last (g.D.Desk.seat c.args.desk.now) (state_of c.args.self.now) (output_of c.args.self.now) c.args.sid (g.D.Desk.seat c.loop-taken.desk) (state_of c.loop-taken.self) (output_of c.loop-taken.self) c.loop-taken.invariant
    (λ q. sid_not_on c.loop-taken.self.table.asks c.args.sid q (none.least.none q))).1

pub invariant_of-self : goal.invariant_of-self
invariant_of-self g c =
    let before = c.loop-taken.self in
    record {
      some = before.some;
      within = before.within;
      rising = before.rising;
      listed = listed_taken before.monitors.items before.table c.take_of.new.self c.take_of.result c.take_of.ensures.rest c.take_of.ensures.none before.listed;
    }
