use Rattle.cli_within.proofs.Making.{has_not_run, has_run}
use Rattle.cli_within.proofs.program.exchange_with.Goals as goal

pub returns-in_default : goal.returns-in_default
returns-in_default g c = has_not_run _ _ _ _ _ _

pub returns : goal.returns
returns g c = has_run _ _ _ _ _ _ _ _ c.exchange-end.result c.in-Ok.desk.log c.exchange-end.new.desk.log c.in-Ok.ensures.seat c.exchange-end.ensures c.exchange-end.new.desk.stands.own
