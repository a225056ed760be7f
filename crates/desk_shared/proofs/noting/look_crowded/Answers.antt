use Rattle.std.proofs.Common.{ap}
use Rattle.std.proofs.lemmas.Bool.{false≢true}
use Rattle.desk_core.specs.Subscribing.{crowded}
use Rattle.desk_shared.specs.Records.{seat_of}
use Rattle.desk_shared.proofs.Marked.{is_entry, look_marked, may_noted}
use Rattle.desk_shared.proofs.noting.look_crowded.Goals as goal

pub look-requires-clause-may : goal.look-requires-clause-may
look-requires-clause-may g c =
    let h = c.args.held in
    may_noted h.seat.me.0 h.hub h.cells.items _ g.B.Notes.mark c.requires.mark c.requires.may

pub returns-clause-marked : goal.returns-clause-marked
returns-clause-marked g c =
    let h = c.args.held in
    look_marked h.seat.me.0 c.look.result.seat.me.0 (crowded (seat_of h.seat.me.0) c.args._count) g.B.Notes.mark c.requires.mark (λ e. false≢true (ap is_entry e))
    c.look.ensures.number c.look.ensures.seen c.look.ensures.log
