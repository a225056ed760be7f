use Rattle.std.proofs.Common.{◌∙◌, ℕ, List, length, Ok, refl, sym, ap, subst, arith}
use Rattle.desk_api.specs.Triggers.{channel_view}
use Rattle.desk_shared.specs.Hands.{states_of}
use Rattle.journal_core.specs.Histories.{kept}
use Rattle.journal_core.specs.Legality.{AreValid}
use Rattle.mon_shown.specs.Slots.{AreReady}
use Rattle.rec_kinds.specs.declared.state.RecState.{RecState}
use Rattle.desk_api.specs.Calls.{Calls}
use Rattle.desk_api.specs.Views.{found_in}
use Rattle.desk_shared.specs.Entries.{AreEntered}
use Rattle.desk_shared.specs.Records.{seat_of}
use Rattle.desk_shared.proofs.Drafted.{back_inside, entered_calls, hand_back, heavy_calls, heavy_is, light_is, may_enter_drafted, may_refuse, restored_count, states_back, states_given, states_inside, states_valid, undoes_still}
use Rattle.desk_shared.proofs.Marked.{hub_still}
use Rattle.desk_shared.proofs.putting.enter_held.Goals as goal

pub restore-requires : goal.restore-requires
restore-requires g c = c.requires.drafted.undoes.within

pub exchange-requires-clause-rises : goal.exchange-requires-clause-rises
exchange-requires-clause-rises g c = c.requires.drafted.undoes.rises

pub exchange-requires-clause-states : goal.exchange-requires-clause-states
exchange-requires-clause-states g c =
    let h = c.args.held in
    back_inside h.seat.me.0 h.hub c.args.recs.now (states_of h.cells.items) c.args.site.now.opening c.args.cells.now.states.items c.args.cells.now.before.items c.requires.drafted.undoes c.restore.new.self.states.items c.restore.ensures.states

pub exchange-requires-clause-ports : goal.exchange-requires-clause-ports
exchange-requires-clause-ports g c =
    ap length c.restore.ensures.ports ∙ c.requires.ports ∙ sym (ap length c.restore.ensures.states ∙ restored_count c.args.cells.now.states.items c.args.cells.now.before.items)

pub look_overweight-pass-requires-clause-may : goal.look_overweight-pass-requires-clause-may
look_overweight-pass-requires-clause-may g c =
    let h = c.args.held in
    may_refuse h.seat.me.0 h.hub c.args.recs.now c.requires.drafted.undoes.taken c.requires.drafted.undoes.has c.args.entry c.kept-kept.result c.weight-added.result h.hub.limit c.kept-kept.ensures c.weight-added.ensures refl (heavy_is c.kept-kept.result c.weight-added.result h.hub.limit c.is_light-light.result c.is_light-light.ensures c.if-not-light.true) c.exchange.new.hand.items
    (hand_back h.seat.me.0 h.hub c.args.recs.now (states_of h.cells.items) c.args.site.now.opening c.args.cells.now.states.items c.args.cells.now.before.items c.requires.drafted.undoes c.restore.new.self.states.items _ _ c.restore.ensures.states c.exchange.ensures.exchanged)

pub returns-then-not-light-clause-calls : goal.returns-then-not-light-clause-calls
returns-then-not-light-clause-calls g c =
    let h = c.args.held in
    (heavy_calls h.seat.me.0 h.hub c.args.recs.now c.requires.drafted.undoes.taken c.requires.drafted.undoes.has c.args.entry c.kept-kept.result c.weight-added.result h.hub.limit c.kept-kept.ensures c.weight-added.ensures refl (heavy_is c.kept-kept.result c.weight-added.result h.hub.limit c.is_light-light.result c.is_light-light.ensures c.if-not-light.true) (seat_of c.look_overweight-pass.result.seat.me.0) c.args.looked.now (found_in c.args.cells.now.states.items c.args.looked.now) c.args.done c.look_overweight-pass.ensures.marked).0

pub returns-then-not-light-clause-ends : goal.returns-then-not-light-clause-ends
returns-then-not-light-clause-ends g c =
    let h = c.args.held in
    (heavy_calls h.seat.me.0 h.hub c.args.recs.now c.requires.drafted.undoes.taken c.requires.drafted.undoes.has c.args.entry c.kept-kept.result c.weight-added.result h.hub.limit c.kept-kept.ensures c.weight-added.ensures refl (heavy_is c.kept-kept.result c.weight-added.result h.hub.limit c.is_light-light.result c.is_light-light.ensures c.if-not-light.true) (seat_of c.look_overweight-pass.result.seat.me.0) c.args.looked.now (found_in c.args.cells.now.states.items c.args.looked.now) c.args.done c.look_overweight-pass.ensures.marked).1

pub returns-then-not-light-clause-states : goal.returns-then-not-light-clause-states
returns-then-not-light-clause-states g c =
    let h = c.args.held in
    states_back h.seat.me.0 h.hub c.args.recs.now (states_of h.cells.items) c.args.site.now.opening c.args.cells.now.states.items c.args.cells.now.before.items c.requires.drafted.undoes c.restore.new.self.states.items _ _ c.restore.ensures.states c.exchange.ensures.exchanged

pub make_ready-requires-clause-valid : goal.make_ready-requires-clause-valid
make_ready-requires-clause-valid g c =
    let h = c.args.held in
    subst (AreValid c.args.site.now.configs) (sym c.as_slice-states.ensures.value) (states_valid h.seat.me.0 h.hub c.args.recs.now (states_of h.cells.items) c.args.site.now c.args.cells.now.states.items c.args.cells.now.before.items c.args.entry c.args.looked.now c.requires.drafted c.groups_over_records.ensures c.opening_is_valid.ensures)

pub give_up-requires-in_default-reserve-clause-undoes :
    goal.give_up-requires-in_default-reserve-clause-undoes
give_up-requires-in_default-reserve-clause-undoes g c =
    let h = c.args.held in
    undoes_still h.seat.me.0 h.hub _ c.args.recs.now (states_of h.cells.items) c.args.site.now.opening c.args.cells.now.states.items c.args.cells.now.before.items c.requires.drafted.undoes
    (hub_still h.seat.me.0 h.hub _ c.args.recs.now c.requires.drafted.undoes.taken c.requires.drafted.undoes.has refl c.reserve.ensures.entries refl)

pub commit_entered-pass-requires-clause-may : goal.commit_entered-pass-requires-clause-may
commit_entered-pass-requires-clause-may g c =
    let h = c.args.held in
    let light = (light_is c.kept-kept.result c.weight-added.result h.hub.limit c.is_light-light.result c.is_light-light.ensures c.if-not-light.false) in
    may_enter_drafted h.seat.me.0 h.hub c.args.recs.now (states_of h.cells.items) c.args.site.now c.args.cells.now.states.items c.args.cells.now.before.items c.args.entry c.args.looked.now c.requires.drafted c.groups_over_records.ensures c.opening_is_valid.ensures _
    (hub_still h.seat.me.0 h.hub _ c.args.recs.now c.requires.drafted.undoes.taken c.requires.drafted.undoes.has refl c.reserve.ensures.entries refl) refl c.in-Ok-reserve.ensures.ok
    (omega (arith, light, ap kept c.reserve.ensures.entries, c.kept-kept.ensures, c.weight-added.ensures)) c.in-Ok.ready
    (subst (λ (l : List RecState). AreReady (channel_view c.args.site.now) l c.args.entry h.hub.subs c.in-Ok.ready) c.as_slice-states.ensures.value c.in-Ok.ensures)

pub commit_entered-pass-requires-clause-inside : goal.commit_entered-pass-requires-clause-inside
commit_entered-pass-requires-clause-inside g c =
    let h = c.args.held in
    states_inside h.seat.me.0 h.hub c.args.recs.now (states_of h.cells.items) c.args.site.now c.args.cells.now.states.items c.args.cells.now.before.items c.args.entry c.args.looked.now c.requires.drafted c.groups_over_records.ensures c.opening_is_valid.ensures

pub returns-clause-calls : goal.returns-clause-calls
returns-clause-calls g c =
    let h = c.args.held in
    let light = (light_is c.kept-kept.result c.weight-added.result h.hub.limit c.is_light-light.result c.is_light-light.ensures c.if-not-light.false) in
    subst (λ (n : ℕ). Calls (seat_of h.seat.me.0) (seat_of c.commit_entered-pass.result.seat.me.0) (AreEntered c.args.entry c.args.looked.now (found_in c.args.cells.now.states.items c.args.looked.now) c.args.done (Ok n)))
    (sym (c.len-place.ensures ∙ ap length c.reserve.ensures.entries))
    (entered_calls h.seat.me.0 h.hub c.args.recs.now (states_of h.cells.items) c.args.site.now c.args.cells.now.states.items c.args.cells.now.before.items c.args.entry c.args.looked.now c.requires.drafted c.groups_over_records.ensures c.opening_is_valid.ensures (seat_of c.commit_entered-pass.result.seat.me.0) c.args.done
    (omega (arith, light, c.kept-kept.ensures, c.weight-added.ensures)) c.commit_entered-pass.ensures.marked).0

pub returns-clause-ends : goal.returns-clause-ends
returns-clause-ends g c =
    let h = c.args.held in
    let light = (light_is c.kept-kept.result c.weight-added.result h.hub.limit c.is_light-light.result c.is_light-light.ensures c.if-not-light.false) in
    (entered_calls h.seat.me.0 h.hub c.args.recs.now (states_of h.cells.items) c.args.site.now c.args.cells.now.states.items c.args.cells.now.before.items c.args.entry c.args.looked.now c.requires.drafted c.groups_over_records.ensures c.opening_is_valid.ensures (seat_of c.commit_entered-pass.result.seat.me.0) c.args.done
    (omega (arith, light, c.kept-kept.ensures, c.weight-added.ensures)) c.commit_entered-pass.ensures.marked).1

pub returns-clause-states : goal.returns-clause-states
returns-clause-states g c =
    let h = c.args.held in
    let given = c.commit_entered-pass.ensures.given in
    states_given h.seat.me.0 h.hub c.args.recs.now (states_of h.cells.items) c.args.site.now c.args.cells.now.states.items c.args.cells.now.before.items c.args.entry c.args.looked.now c.requires.drafted c.groups_over_records.ensures c.opening_is_valid.ensures given.0 c.commit_entered-pass.new.cells.states.items given.1
