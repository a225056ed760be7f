use Rattle.std.proofs.Common.{inl, inr, refl}
use Rattle.prog_client.proofs.networking.run_over_network.Goals as goal

pub returns-in-Ok : goal.returns-in-Ok
returns-in-Ok g c = inl (c.take_route.ensures _ _ c.in-Ok.ensures)

pub returns-in-Err : goal.returns-in-Err
returns-in-Err g c = inr (record { stop = c.in-Err.stop; outcome_is = refl; puts = c.in-Err.ensures; unsent = refl; undialed = refl })
