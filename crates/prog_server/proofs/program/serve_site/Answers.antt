use Rattle.std.proofs.Common.{sym, ◌∙◌}
use Rattle.prog_server.proofs.Making.{fault_at_six, site_served, site_unserved, unmade_no_six}
use Rattle.prog_server.proofs.program.serve_site.Goals as goal

pub returns-in-Err-clause-serves : goal.returns-in-Err-clause-serves
returns-in-Err-clause-serves g c = site_unserved (Unit {0}) _ _ _ _ _ _ c.in-Err.stop c.status_of_unmade.result c.in-Err.ensures.asked c.status_of_unmade.ensures

pub returns-in-Err-clause-fault : goal.returns-in-Err-clause-fault
returns-in-Err-clause-fault g c = λ six. absurd (unmade_no_six c.in-Err.stop c.status_of_unmade.result c.status_of_unmade.ensures six)

pub returns-clause-serves : goal.returns-clause-serves
returns-clause-serves g c = site_served _ _ _ _ _ _ _ c.serve_with.result c.status_of.result c.in-Ok.ensures.asked c.serve_with.ensures.serves c.status_of.ensures

pub returns-clause-fault : goal.returns-clause-fault
returns-clause-fault g c = λ six. fault_at_six _ _ _ c.serve_with.result c.serve_with.ensures.fault (sym c.status_of.ensures ∙ six)
