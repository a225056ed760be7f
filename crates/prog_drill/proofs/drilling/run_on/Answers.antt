use Rattle.std.proofs.Common.{◌∙◌}
use Rattle.prog_drill.proofs.Totalling.{run_totals}
use Rattle.prog_drill.proofs.drilling.run_on.Goals as goal

pub returns : goal.returns
returns c =
    run_totals c.args.number c.args.counting.now.desk.log c.play.new.desk.desk.log c.as_slice.result.now c.totals_of.result c.requires (c.as_slice.ensures.value ∙ c.in-Ok.ensures) c.in-Ok-play.ensures
    c.play.new.desk.desk.stands.own c.totals_of.ensures
