use Rattle.std.proofs.Common.{◌∷◌, [], codes}
use Rattle.cli_session.proofs.Building.{request_made}
use Rattle.cli_session.proofs.structures.monitor_request.Goals as goal

pub returns-in-None-clause-fits : goal.returns-in-None-clause-fits
returns-in-None-clause-fits c = request_made c.request.result _ _ ((codes "queueSize", c.format.result.now) ∷ []) c.request.ensures

pub returns-in-Some-clause-fits : goal.returns-in-Some-clause-fits
returns-in-Some-clause-fits c =
    request_made c.request-in-Some.result _ _ ((codes "queueSize", c.format.result.now) ∷ (codes "pipeline", codes "true") ∷ []) c.request-in-Some.ensures
