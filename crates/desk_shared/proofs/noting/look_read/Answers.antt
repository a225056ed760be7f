use Rattle.std.proofs.Common.{ap}
use Rattle.std.proofs.lemmas.Bool.{false≢true}
use Rattle.desk_api.specs.declared.mark.Mark.TheVariants.{Read}
use Rattle.desk_shared.specs.Hands.{states_of}
use Rattle.desk_shared.proofs.Marked.{is_entry, look_marked, may_noted}
use Rattle.desk_shared.proofs.noting.look_read.Goals as goal

pub glanced-requires-clause-may : goal.glanced-requires-clause-may
glanced-requires-clause-may g c =
    let h = c.args.held in
    let may = c.requires.may in
    (may.0, may.1, may_noted h.seat.me.0 may.0 h.cells.items _ g.B.Notes.mark c.requires.mark may.2)

pub returns-clause-marked : goal.returns-clause-marked
returns-clause-marked g c =
    let h = c.args.held in
    look_marked h.seat.me.0 c.glanced.result.seat.me.0 (λ at. Read at c.args._channel h.footprint.items (states_of h.cells.items)) g.B.Notes.mark c.requires.mark (λ e. false≢true (ap is_entry e))
    c.glanced.ensures.number c.glanced.ensures.seen c.glanced.ensures.log
