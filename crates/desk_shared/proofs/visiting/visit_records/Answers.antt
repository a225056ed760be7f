use Rattle.desk_shared.proofs.Handed.{visits_of}
use Rattle.desk_shared.proofs.Listed.{every_of_all, rises_of}
use Rattle.desk_shared.proofs.visiting.visit_records.Goals as goal

pub visit-requires-clause-rises : goal.visit-requires-clause-rises
visit-requires-clause-rises g c = rises_of c.args.recs.items c.requires.rises

pub visit-requires-clause-inside : goal.visit-requires-clause-inside
visit-requires-clause-inside g c = every_of_all _ c.args.recs.items c.requires.inside

pub returns-in-Ok-clause-visits : goal.returns-in-Ok-clause-visits
returns-in-Ok-clause-visits g c =
    let v = c.in-Ok.visit in
    let made = c.in-Ok.ensures in
    visits_of c.args.pass.seat.me.0 v.seat.me.0 c.args.recs.items v.footprint.items v.cells.items made.footprint v.carries.numbers made.taken made.same made.was
