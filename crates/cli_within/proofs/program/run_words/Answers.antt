use Rattle.cli_within.proofs.Outcomes.{named_by, piece_by, runs_taken, runs_unasked}
use Rattle.cli_within.proofs.program.run_words.Goals as goal

pub run_asked-requires-clause-named : goal.run_asked-requires-clause-named
run_asked-requires-clause-named g c = λ κs lasting. named_by _ _ c.in-Ok.ensures

pub run_asked-requires-clause-some : goal.run_asked-requires-clause-some
run_asked-requires-clause-some g c = λ κs lasting. piece_by _ _ c.in-Ok.ensures

pub returns-in-Ok : goal.returns-in-Ok
returns-in-Ok g c = runs_taken _ _ _ _ _ _ c.in-Ok.ensures c.run_asked.ensures

pub returns-in-Err : goal.returns-in-Err
returns-in-Err g c = runs_unasked _ _ _ c.in-Err.stop c.status_of_words.result c.in-Err.ensures c.status_of_words.ensures
