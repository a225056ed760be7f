use Rattle.prog_server.proofs.Outcomes.{drilled}
use Rattle.prog_server.proofs.program.run_drill.Goals as goal

pub returns : goal.returns
returns g c =
    drilled c.args.number _ c.as_bytes.result.now _ _ _ _ c.status_by.result c.print.result c.in-Ok.ensures c.as_bytes.ensures.value c.print.ensures c.status_by.ensures
