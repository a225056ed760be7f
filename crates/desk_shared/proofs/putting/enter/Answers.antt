use Rattle.std.proofs.Common.{List, sym, ap, subst}
use Rattle.rec_kinds.specs.declared.state.RecState.{RecState}
use Rattle.desk_shared.specs.Hands.{states_of, IsDrafted}
use Rattle.desk_shared.specs.Records.{seat_of}
use Rattle.desk_shared.proofs.Behind.{behind, told_behind}
use Rattle.desk_shared.proofs.Watched.{hub_behind}
use Rattle.desk_shared.proofs.putting.enter.Goals as goal

pub enter_held-requires-clause-drafted : goal.enter_held-requires-clause-drafted
enter_held-requires-clause-drafted g c =
    let v = c.args.visit.seat.me.0 in
    let a = c.requires.ahead in
    let h = c.hub-held.result in
    let b = hub_behind v v h.seat.me.0 h.hub c.args.recs.now a.taken a.visits c.hub-held.ensures.taken c.hub-held.ensures.found in
    subst (λ (l : List RecState). IsDrafted h.seat.me.0 h.hub c.args.recs.now l c.args.site.now c.args.cells.now.states.items c.args.cells.now.before.items c.args.entry c.args.looked.now)
    (sym (ap states_of c.hub-held.ensures.cells)) (a.drafted h.seat.me.0 h.hub b)

pub returns-clause-calls : goal.returns-clause-calls
returns-clause-calls g c =
    let v = c.args.visit.seat.me.0 in
    let a = c.requires.ahead in
    let h = c.hub-held.result in
    let b = hub_behind v v h.seat.me.0 h.hub c.args.recs.now a.taken a.visits c.hub-held.ensures.taken c.hub-held.ensures.found in
    behind (seat_of v) (seat_of h.seat.me.0) (seat_of c.enter_held.result.0.seat.me.0) b.others _ c.enter_held.ensures.calls

pub returns-clause-ends : goal.returns-clause-ends
returns-clause-ends g c =
    let v = c.args.visit.seat.me.0 in
    let a = c.requires.ahead in
    let h = c.hub-held.result in
    let b = hub_behind v v h.seat.me.0 h.hub c.args.recs.now a.taken a.visits c.hub-held.ensures.taken c.hub-held.ensures.found in
    told_behind (seat_of v) (seat_of h.seat.me.0) (seat_of c.enter_held.result.0.seat.me.0) b.others c.enter_held.result.1 c.enter_held.ensures.ends
