use Rattle.std.proofs.Common.{◌<◌, arith, refl, sym, ◌∙◌, ap, subst}
use Rattle.std.specs.FinMap.{get, len}
use Rattle.srv_session.specs.State.{State, Requests, slots_of}
use Rattle.srv_session.specs.Views.{state_of, output_of}
use Rattle.srv_session.proofs.Ending.{Ends, ends_first, ends_all, all_next, all_ended, first_of_all, some_ask}
use Rattle.srv_session.proofs.Slots.{slots_none}
use Rattle.srv_session.proofs.Tables.{fewer}
use Rattle.srv_session.proofs.session.Session.end_all.Goals as goal

pub loop-req-init : goal.loop-req-init
loop-req-init g c = ends_first (g.D.Desk.seat c.args.desk.now) (slots_of c.args.self.now.table.asks) c.has_legal_history.ensures c.requires

pub end_request-requires : goal.end_request-requires
end_request-requires g c =
    let before : Requests = c.loop-req.self.table.asks in
    let next = c.in-Some.ensures {u = tt} in
    let found = some_ask (get before c.in-Some.req) next.present in
    first_of_all (g.D.Desk.seat c.loop-req.desk).log before c.in-Some.req found.0 found.1 next c.loop-req.invariant.living_

pub loop-req-smaller : goal.loop-req-smaller
loop-req-smaller g c =
    let before : Requests = c.loop-req.self.table.asks in
    let next = c.in-Some.ensures {u = tt} in
    let found = some_ask (get before c.in-Some.req) next.present in
    subst (λ (z : State). len z.requests < len before) (sym c.end_request.ensures.state) (fewer before c.in-Some.req found.0 found.1)

pub loop-req-preserved : goal.loop-req-preserved
loop-req-preserved g c =
    let before : Requests = c.loop-req.self.table.asks in
    let next = c.in-Some.ensures {u = tt} in
    let found = some_ask (get before c.in-Some.req) next.present in
    let first = g.D.Desk.seat c.args.desk.now in
    let all = slots_of c.args.self.now.table.asks in
    subst (λ (z : State). Ends first all (g.D.Desk.seat c.end_request.new.desk) (slots_of z.requests)) (sym c.end_request.ensures.state)
    (all_next before c.in-Some.req found.0 found.1 next first all (g.D.Desk.seat c.loop-req.desk) (g.D.Desk.seat c.end_request.new.desk) c.loop-req.invariant c.end_request.ensures.calls)

pub returns : goal.returns
returns g c =
    let none = c.in_default.ensures {u = tt} in
    let here = g.D.Desk.seat c.args.desk.now in
    all_ended here (g.D.Desk.seat c.loop-req.desk) (state_of c.args.self.now) (output_of c.args.self.now)
    (ends_all here (g.D.Desk.seat c.loop-req.desk) (slots_of c.args.self.now.table.asks) (slots_of c.loop-req.self.table.asks) (slots_none c.loop-req.self.table.asks (λ q. none.none q (omega arith))) c.loop-req.invariant)
