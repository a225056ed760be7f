use Rattle.prog_client.proofs.client.run_over.Goals as goal

pub returns : goal.returns
returns g c = record { outcome = c.run_over_network-outcome.result; networks = c.run_over_network-outcome.ensures; status_is = c.status_of_outcome.ensures }
