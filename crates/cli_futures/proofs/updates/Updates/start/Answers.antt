use Rattle.cli_futures.proofs.updates.Updates.start.Goals as goal

pub returns : goal.returns
returns g c = record { stands = c.start.ensures.going; patience = c.start.ensures.patience }
