use Rattle.std.proofs.Common.{inl, inr, refl}
use Rattle.prog_client.proofs.Overs.{can_seek}
use Rattle.prog_client.proofs.client.run.Goals as goal

pub run_over-requires-clause-short : goal.run_over-requires-clause-short
run_over-requires-clause-short g c = let taken = rw c.in-OverNetwork.is at c.in-Ok.ensures in taken.asks.ask_is.name_is.few

pub run_over-requires-clause-rounds : goal.run_over-requires-clause-rounds
run_over-requires-clause-rounds g c = let taken = rw c.in-OverNetwork.is at c.in-Ok.ensures in can_seek _ _ _ c.in-OverNetwork.asked.route taken.asks.route_is

pub returns-in-OverNetwork : goal.returns-in-OverNetwork
returns-in-OverNetwork g c = inl (record {
  asked = c.in-OverNetwork.asked;
  taken = rw c.in-OverNetwork.is at c.in-Ok.ensures;
  code = c.run_over.result;
  runs = c.run_over.ensures;
  number_is = c.number.ensures;
  wire = refl;
  files = refl;
  ports = refl;
})

pub returns-in-Within : goal.returns-in-Within
returns-in-Within g c = inr (inl (record { sourced = rw c.in-Within.is at c.in-Ok.ensures; runs = c.run.ensures; datagrams = refl; dialer = refl }))

pub returns-in-Refused : goal.returns-in-Refused
returns-in-Refused g c =
    let taken = rw c.in-Refused.is at c.in-Ok.ensures in inr (inr (inl (record { not_over = taken.0; not_sourced = taken.1; number_is = c.number-in-Refused.ensures; untouched = refl })))

pub returns-in-Err : goal.returns-in-Err
returns-in-Err g c = inr (inr (inr (record { number_is = c.number-in-Err.ensures; untouched = refl })))
