use Rattle.std.proofs.Common.{◌∙◌, ap, sym, map, reverse}
use Rattle.hall_tests.specs.TwoCells.{two_cells}
use Rattle.hall_locks.specs.Hands.{values_of}
use Rattle.hall_tests.proofs.Adding.{may_look}
use Rattle.hall_tests.proofs.halls.add_one.Goals as goal

pub look-requires-clause-may : goal.look-requires-clause-may
look-requires-clause-may g c =
    let h = c.hub-held.result in
    may_look h.seat.me.0 h.hub h.cells.items (ap (λ v. v.hub) c.hub-held.ensures.taken) c.hub-held.ensures.found.entries
    (ap (λ v. values_of v.cells) c.hub-held.ensures.taken ∙ (c.in_ok-visit.ensures.taken ∙ ap (λ l. reverse (map two_cells.shows l)) (sym c.hub-held.ensures.cells)))

pub add_held-requires-clause-both : goal.add_held-requires-clause-both
add_held-requires-clause-both g c = c.hub-held.ensures.footprint ∙ (c.in_ok-visit.ensures.footprint ∙ c.in-Ok.ensures.items)

pub add_held-requires-clause-taken : goal.add_held-requires-clause-taken
add_held-requires-clause-taken g c = ap (λ v. v.hub) c.hub-held.ensures.taken

pub add_held-requires-clause-entries : goal.add_held-requires-clause-entries
add_held-requires-clause-entries g c = c.hub-held.ensures.found.entries
