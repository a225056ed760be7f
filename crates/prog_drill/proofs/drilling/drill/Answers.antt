use Rattle.prog_drill.proofs.Totalling.{drill_told}
use Rattle.prog_drill.proofs.drilling.drill.Goals as goal

pub returns : goal.returns
returns c = drill_told c.args.number c.in-Ok.totals _ c.in-Ok.ensures c.in-Ok-lines_of.ensures
