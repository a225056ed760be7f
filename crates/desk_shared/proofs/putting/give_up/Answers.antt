use Rattle.std.proofs.Common.{◌∙◌, length, refl, sym, ap}
use Rattle.desk_core.specs.Ports.{ports_there}
use Rattle.desk_shared.specs.Hands.{states_of}
use Rattle.desk_shared.proofs.Drafted.{back_inside, hand_back, restored_count, states_back}
use Rattle.desk_shared.proofs.Marked.{may_quit, unmarked}
use Rattle.desk_shared.proofs.putting.give_up.Goals as goal

pub restore-requires : goal.restore-requires
restore-requires g c = c.requires.undoes.within

pub exchange-requires-clause-rises : goal.exchange-requires-clause-rises
exchange-requires-clause-rises g c = c.requires.undoes.rises

pub exchange-requires-clause-states : goal.exchange-requires-clause-states
exchange-requires-clause-states g c =
    let h = c.args.held in
    back_inside h.seat.me.0 h.hub c.args.recs.now (states_of h.cells.items) c.args.site.now.opening c.args.cells.now.states.items c.args.cells.now.before.items c.requires.undoes c.restore.new.self.states.items c.restore.ensures.states

pub look-requires-clause-may : goal.look-requires-clause-may
look-requires-clause-may g c =
    let h = c.args.held in
    let u = c.requires.undoes in
    may_quit h.seat.me.0 h.hub h.hub c.args.recs.now u.taken c.exchange.new.hand.items u.has
    (hand_back h.seat.me.0 h.hub c.args.recs.now (states_of h.cells.items) c.args.site.now.opening c.args.cells.now.states.items c.args.cells.now.before.items u c.restore.new.self.states.items _ _ c.restore.ensures.states c.exchange.ensures.exchanged)
    refl refl (λ k log kept. kept)

pub returns-clause-same : goal.returns-clause-same
returns-clause-same g c = unmarked c.args.held.seat.me.0 c.look.result.seat.me.0 c.look.ensures.number c.look.ensures.seen c.look.ensures.log

pub returns-clause-states : goal.returns-clause-states
returns-clause-states g c =
    let h = c.args.held in
    states_back h.seat.me.0 h.hub c.args.recs.now (states_of h.cells.items) c.args.site.now.opening c.args.cells.now.states.items c.args.cells.now.before.items c.requires.undoes c.restore.new.self.states.items _ _ c.restore.ensures.states c.exchange.ensures.exchanged

pub exchange-requires-clause-ports : goal.exchange-requires-clause-ports
exchange-requires-clause-ports g c =
    ap length c.restore.ensures.ports ∙ c.requires.ports ∙ sym (ap length c.restore.ensures.states ∙ restored_count c.args.cells.now.states.items c.args.cells.now.before.items)

pub exchange-requires-clause-many : goal.exchange-requires-clause-many
exchange-requires-clause-many g c = c.requires.many

pub invariant_of-held : goal.invariant_of-held
invariant_of-held g c =
    let h = c.args.held in
    record { holds = h.holds; slots = h.slots; many = c.exchange.ensures.many ∙ h.many }

pub returns-clause-ports : goal.returns-clause-ports
returns-clause-ports g c = c.exchange.ensures.ports ∙ ap ports_there c.restore.ensures.ports
