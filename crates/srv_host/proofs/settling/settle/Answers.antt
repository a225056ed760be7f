use Rattle.std.proofs.Common.{◌≡◌, ◌∷◌, ℕ, List, [], ◌∙◌, refl, sym, ap, subst}
use Rattle.histories.specs.History.{Every, deeds_by}
use Rattle.hall_core.specs.Meanings.{AreDistinct}
use Rattle.hall_locks.specs.Hall.{numbers_of}
use Rattle.desk_api.specs.Calls.{Adds}
use Rattle.desk_api.specs.History.{History}
use Rattle.desk_api.specs.Marks.{deeds_of}
use Rattle.desk_api.specs.declared.mark.Mark.{Mark}
use Rattle.desk_api.specs.declared.mark.Seat.{Seat}
use Rattle.desk_shared.specs.Records.{seat_of}
use Rattle.desk_shared.proofs.Handed.{has_hub, no_cells, others_before, visits_of}
use Rattle.desk_shared.proofs.Marked.{may_quit, unmarked}
use Rattle.srv_host.proofs.Settled.{all_did, did_as}
use Rattle.srv_host.proofs.settling.settle.Goals as goal

pub look-requires-clause-may : goal.look-requires-clause-may
look-requires-clause-may g c =
    let v = c.in-Ok.visit in
    let h = c.hub-held.result in
    let made = c.in-Ok.ensures in
    let visits = visits_of c.args.pass.seat.me.0 v.seat.me.0 [] v.footprint.items v.cells.items (made.footprint ∙ c.new.ensures.items) v.carries.numbers made.taken made.same made.was in
    may_quit h.seat.me.0 h.hub h.hub [] _ h.cells.items (has_hub c.args.pass.seat.me.0 v.seat.me.0 h.seat.me.0 h.hub [] _ visits c.hub-held.ensures.taken c.hub-held.ensures.found) (no_cells h.cells.items v.cells.items c.hub-held.ensures.cells) refl refl (λ k log kept. kept)

pub returns-clause-adds : goal.returns-clause-adds
returns-clause-adds g c =
    let v = c.in-Ok.visit in
    let h = c.hub-held.result in
    let made = c.in-Ok.ensures in
    let visits = visits_of c.args.pass.seat.me.0 v.seat.me.0 [] v.footprint.items v.cells.items (made.footprint ∙ c.new.ensures.items) v.carries.numbers made.taken made.same made.was in
    subst (λ (s : Seat). Adds (seat_of c.args.pass.seat.me.0) s []) (sym (unmarked h.seat.me.0 c.look.result.seat.me.0 c.look.ensures.number c.look.ensures.seen c.look.ensures.log))
    (others_before c.args.pass.seat.me.0 v.seat.me.0 h.seat.me.0 h.hub [] _ visits c.hub-held.ensures.taken c.hub-held.ensures.found)

pub returns-clause-others : goal.returns-clause-others
returns-clause-others g c = c.look.ensures.others ∙ (c.hub-held.ensures.others ∙ c.in-Ok.ensures.others)

pub returns-clause-distinct : goal.returns-clause-distinct
returns-clause-distinct g c =
    let number = c.look.ensures.number ∙ ap (λ w. w.number) c.hub-held.ensures.taken in
    let others = c.look.ensures.others ∙ c.hub-held.ensures.others in
    rw (number, others) c.hub-held.ensures.found.distinct

pub returns-clause-did : goal.returns-clause-did
returns-clause-did g c =
    let v = c.in-Ok.visit in
    let h = c.hub-held.result in
    let s = unmarked h.seat.me.0 c.look.result.seat.me.0 c.look.ensures.number c.look.ensures.seen c.look.ensures.log in
    let found = c.hub-held.ensures.found in
    did_as _ _ _ _ _ _ _ _ (ap (λ z. z.number) s ∙ ap (λ w. w.number) c.hub-held.ensures.taken) (ap (λ z. z.log) s ∙ ap (λ w. w.log) c.hub-held.ensures.taken)
    (c.look.ensures.others ∙ c.hub-held.ensures.others) (ap (λ z. z.seen) s) (all_did ((v.seat.me.0.number, v.seat.me.0.log) ∷ v.seat.me.0.others) h.seat.me.0.seen (found.logged, found.others_logged))
