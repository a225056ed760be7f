use Rattle.std.proofs.Common.{[], ◌∙◌, ap, refl, sym, subst}
use Rattle.desk_api.specs.Calls.{Adds}
use Rattle.desk_api.specs.declared.mark.Seat.{Seat}
use Rattle.desk_shared.specs.Records.{Sight, seat_of}
use Rattle.desk_shared.proofs.Handed.{has_hub, no_cells, others_before, visits_of}
use Rattle.desk_shared.proofs.Marked.{may_quit, unmarked}
use Rattle.desk_shared.proofs.visiting.catch_up.Goals as goal

pub glanced-requires-clause-may : goal.glanced-requires-clause-may
glanced-requires-clause-may g c =
    let v = c.in-Ok.visit in
    let h = c.glance-held.result in
    let had = c.glance-held.ensures.hub in
    let made = c.in-Ok.ensures in
    let visits = visits_of c.args.pass.seat.me.0 v.seat.me.0 [] v.footprint.items v.cells.items (made.footprint ∙ c.new.ensures.items) v.carries.numbers made.taken made.same made.was in
    (had.0, ap (λ (x : Sight). x.hub) had.1, may_quit h.seat.me.0 had.0 had.0 [] _ h.cells.items (has_hub c.args.pass.seat.me.0 v.seat.me.0 h.seat.me.0 had.0 [] _ visits had.1 had.2) (no_cells h.cells.items v.cells.items c.glance-held.ensures.cells) refl refl (λ k log kept. kept))

pub returns-clause-adds : goal.returns-clause-adds
returns-clause-adds g c =
    let v = c.in-Ok.visit in
    let h = c.glance-held.result in
    let had = c.glance-held.ensures.hub in
    let made = c.in-Ok.ensures in
    let visits = visits_of c.args.pass.seat.me.0 v.seat.me.0 [] v.footprint.items v.cells.items (made.footprint ∙ c.new.ensures.items) v.carries.numbers made.taken made.same made.was in
    subst (λ (s : Seat). Adds (seat_of c.args.pass.seat.me.0) s []) (sym (unmarked h.seat.me.0 c.glanced.result.seat.me.0 c.glanced.ensures.number c.glanced.ensures.seen c.glanced.ensures.log))
    (others_before c.args.pass.seat.me.0 v.seat.me.0 h.seat.me.0 had.0 [] _ visits had.1 had.2)
