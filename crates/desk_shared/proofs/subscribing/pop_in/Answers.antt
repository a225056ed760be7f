use Rattle.std.proofs.Common.{refl, ap, ◌∙◌}
use Rattle.desk_shared.specs.Hands.{states_of}
use Rattle.desk_shared.proofs.Subscribed.{may_pop}
use Rattle.desk_shared.proofs.Watched.{hub_alone, lives_there, pop_calls, pop_ends, pop_fits}
use Rattle.desk_shared.proofs.subscribing.pop_in.Goals as goal

pub look_popped-requires-clause-may : goal.look_popped-requires-clause-may
look_popped-requires-clause-may g c =
    let v = c.in-Ok.visit in
    let h = c.hub-held.result in
    let made = c.in-Ok.ensures in
    let behind = hub_alone c.args.pass.seat.me.0 v.seat.me.0 h.seat.me.0 h.hub v.footprint.items v.cells.items (made.footprint ∙ c.new.ensures.items) v.carries.numbers made.taken made.same made.was c.hub-held.ensures.taken c.hub-held.ensures.found in
    may_pop h.seat.me.0 h.hub _ _ _ h.cells.items behind.has (ap states_of c.hub-held.ensures.cells) refl refl c.args.slot c.pop-update.result c.pop-update.ensures.pops
    (lives_there c.args.pass.seat.me.0 h.seat.me.0 h.seat.me.0 h.hub _ _ behind c.args.slot c.requires.lives)

pub returns-clause-calls : goal.returns-clause-calls
returns-clause-calls g c =
    let v = c.in-Ok.visit in
    let h = c.hub-held.result in
    let made = c.in-Ok.ensures in
    let behind = hub_alone c.args.pass.seat.me.0 v.seat.me.0 h.seat.me.0 h.hub v.footprint.items v.cells.items (made.footprint ∙ c.new.ensures.items) v.carries.numbers made.taken made.same made.was c.hub-held.ensures.taken c.hub-held.ensures.found in
    pop_calls c.args.pass.seat.me.0 h.seat.me.0 c.look_popped.result.seat.me.0 h.hub _ _ behind c.args.slot c.pop-update.result _ c.pop-update.ensures.pops c.requires.lives c.look_popped.ensures.marked

pub returns-clause-ends : goal.returns-clause-ends
returns-clause-ends g c =
    let v = c.in-Ok.visit in
    let h = c.hub-held.result in
    let made = c.in-Ok.ensures in
    let behind = hub_alone c.args.pass.seat.me.0 v.seat.me.0 h.seat.me.0 h.hub v.footprint.items v.cells.items (made.footprint ∙ c.new.ensures.items) v.carries.numbers made.taken made.same made.was c.hub-held.ensures.taken c.hub-held.ensures.found in
    pop_ends c.args.pass.seat.me.0 h.seat.me.0 c.look_popped.result.seat.me.0 h.hub _ _ behind c.args.slot c.pop-update.result _ c.pop-update.ensures.pops c.requires.lives c.look_popped.ensures.marked

pub returns-clause-fits : goal.returns-clause-fits
returns-clause-fits g c =
    let v = c.in-Ok.visit in
    let h = c.hub-held.result in
    let made = c.in-Ok.ensures in
    let behind = hub_alone c.args.pass.seat.me.0 v.seat.me.0 h.seat.me.0 h.hub v.footprint.items v.cells.items (made.footprint ∙ c.new.ensures.items) v.carries.numbers made.taken made.same made.was c.hub-held.ensures.taken c.hub-held.ensures.found in
    pop_fits c.args.pass.seat.me.0 h.seat.me.0 h.seat.me.0 h.hub _ _ behind c.logs_tell_slots.ensures.typed c.args.slot c.pop-update.result c.pop-update.ensures.fits
