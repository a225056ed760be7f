use Rattle.prog_server.proofs.Served.{alone, more_faults, left_fault}
use Rattle.prog_server.proofs.server.run.Goals as goal

pub returns-in-Some-clause-ran : goal.returns-in-Some-clause-ran
returns-in-Some-clause-ran g c = alone _ _ _ _ _ _ _ c.in-Some.ensures.runs

pub returns-in-Some-clause-fault : goal.returns-in-Some-clause-fault
returns-in-Some-clause-fault g c = more_faults c.in-Some.status c.in-Some.ensures.fault

pub returns-in-None-clause-fault : goal.returns-in-None-clause-fault
returns-in-None-clause-fault g c = left_fault _ _ _ _ _ _ _ _ _ _ _ _ _ _ _ c.in-None.ensures.runs c.serve_many.ensures.fault
