use Rattle.prog_client.proofs.Caused.{statuses_have_causes}
use Rattle.prog_client.proofs.network_laws.statuses_have_causes.Goals as goal

pub returns : goal.returns
returns c = statuses_have_causes
