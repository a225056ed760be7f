use Rattle.std.proofs.Common.{refl, ap, ◌∙◌}
use Rattle.desk_shared.specs.Hands.{states_of}
use Rattle.desk_shared.proofs.Subscribed.{may_drop}
use Rattle.desk_shared.proofs.Watched.{end_calls, end_ends, end_rolled, hub_alone, lives_there, site_there, stand_there}
use Rattle.desk_shared.proofs.subscribing.unsubscribe_in.Goals as goal

pub end-requires : goal.end-requires
end-requires g c =
    let v = c.in-Ok.visit in
    let h = c.hub-held.result in
    let made = c.in-Ok.ensures in
    let behind = hub_alone c.args.pass.seat.me.0 v.seat.me.0 h.seat.me.0 h.hub v.footprint.items v.cells.items (made.footprint ∙ c.new.ensures.items) v.carries.numbers made.taken made.same made.was c.hub-held.ensures.taken c.hub-held.ensures.found in
    stand_there c.args.pass.seat.me.0 h.seat.me.0 h.seat.me.0 h.hub _ _ behind c.args.site.now c.requires.site

pub look_dropped-requires-clause-may : goal.look_dropped-requires-clause-may
look_dropped-requires-clause-may g c =
    let v = c.in-Ok.visit in
    let h = c.hub-held.result in
    let made = c.in-Ok.ensures in
    let behind = hub_alone c.args.pass.seat.me.0 v.seat.me.0 h.seat.me.0 h.hub v.footprint.items v.cells.items (made.footprint ∙ c.new.ensures.items) v.carries.numbers made.taken made.same made.was c.hub-held.ensures.taken c.hub-held.ensures.found in
    may_drop h.seat.me.0 h.hub _ _ _ h.cells.items behind.has (ap states_of c.hub-held.ensures.cells) refl refl c.args.site.now c.args.slot
    (site_there c.args.pass.seat.me.0 h.seat.me.0 h.seat.me.0 h.hub _ _ behind c.args.site.now c.requires.site) c.end.ensures.ends
    (lives_there c.args.pass.seat.me.0 h.seat.me.0 h.seat.me.0 h.hub _ _ behind c.args.slot c.requires.lives)

pub returns-clause-calls : goal.returns-clause-calls
returns-clause-calls g c =
    let v = c.in-Ok.visit in
    let h = c.hub-held.result in
    let made = c.in-Ok.ensures in
    let behind = hub_alone c.args.pass.seat.me.0 v.seat.me.0 h.seat.me.0 h.hub v.footprint.items v.cells.items (made.footprint ∙ c.new.ensures.items) v.carries.numbers made.taken made.same made.was c.hub-held.ensures.taken c.hub-held.ensures.found in
    end_calls c.args.pass.seat.me.0 h.seat.me.0 c.look_dropped.result.seat.me.0 h.hub _ _ behind c.args.site.now c.args.slot _ c.end.ensures.ends c.requires.site c.requires.lives c.look_dropped.ensures.marked

pub returns-clause-rolled : goal.returns-clause-rolled
returns-clause-rolled g c =
    let v = c.in-Ok.visit in
    let h = c.hub-held.result in
    let made = c.in-Ok.ensures in
    let behind = hub_alone c.args.pass.seat.me.0 v.seat.me.0 h.seat.me.0 h.hub v.footprint.items v.cells.items (made.footprint ∙ c.new.ensures.items) v.carries.numbers made.taken made.same made.was c.hub-held.ensures.taken c.hub-held.ensures.found in
    end_rolled c.args.pass.seat.me.0 h.seat.me.0 c.look_dropped.result.seat.me.0 h.hub _ _ behind c.args.site.now c.args.slot _ c.end.ensures.ends c.requires.site c.requires.lives c.look_dropped.ensures.marked

pub returns-clause-ends : goal.returns-clause-ends
returns-clause-ends g c =
    let v = c.in-Ok.visit in
    let h = c.hub-held.result in
    let made = c.in-Ok.ensures in
    let behind = hub_alone c.args.pass.seat.me.0 v.seat.me.0 h.seat.me.0 h.hub v.footprint.items v.cells.items (made.footprint ∙ c.new.ensures.items) v.carries.numbers made.taken made.same made.was c.hub-held.ensures.taken c.hub-held.ensures.found in
    end_ends c.args.pass.seat.me.0 h.seat.me.0 c.look_dropped.result.seat.me.0 h.hub _ _ behind c.args.site.now c.args.slot _ c.end.ensures.ends c.requires.site c.requires.lives c.look_dropped.ensures.marked
