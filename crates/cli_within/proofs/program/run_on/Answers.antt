use Rattle.cli_within.proofs.Making.{site_run, site_unrun}
use Rattle.cli_within.proofs.program.run_on.Goals as goal

pub returns-in-Ok : goal.returns-in-Ok
returns-in-Ok g c = site_run _ _ _ _ _ _ _ _ _ _ c.exchange_with.result c.status_of.result c.in-Ok.ensures.asked c.exchange_with.ensures c.status_of.ensures

pub returns-in-Err : goal.returns-in-Err
returns-in-Err g c = site_unrun (Unit {0}) _ _ _ _ _ _ _ _ c.in-Err.stop c.status_of_unmade.result c.in-Err.ensures.asked c.status_of_unmade.ensures
