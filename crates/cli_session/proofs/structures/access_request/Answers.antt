use Rattle.cli_session.proofs.Building.{request_made}
use Rattle.cli_session.proofs.structures.access_request.Goals as goal

pub returns-clause-fits : goal.returns-clause-fits
returns-clause-fits c = request_made c.request.result _ _ _ c.request.ensures
