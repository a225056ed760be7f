use Rattle.std.proofs.Common.{refl}
use Rattle.cli_within.proofs.Outcomes.{done_on, done_without}
use Rattle.cli_within.proofs.program.run_asked.Goals as goal

pub returns-in-Ok : goal.returns-in-Ok
returns-in-Ok g c = done_on c.deref.result.now _ _ _ _ _ _ c.deref.ensures.value c.in-Ok.ensures refl c.run_on.ensures

pub returns-in-Err : goal.returns-in-Err
returns-in-Err g c = done_without c.deref.result.now _ _ _ _ _ _ c.deref.ensures.value c.in-Err.ensures refl refl refl refl c.status_of_source.ensures
