use Rattle.std.proofs.Common.{◌∙◌, ap, length, reverse}
use Rattle.hall_tests.proofs.Adding.{may_add}
use Rattle.hall_tests.proofs.halls.add_held.Goals as goal

pub commit-requires-clause-may : goal.commit-requires-clause-may
commit-requires-clause-may c =
    let h = c.args.held in
    may_add h.seat.me.0 h.hub h.cells.items c.requires.taken c.requires.entries (h.holds.numbers ∙ ap reverse c.requires.both) (h.many ∙ ap length c.requires.both)
