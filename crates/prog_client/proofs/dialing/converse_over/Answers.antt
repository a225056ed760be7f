use Rattle.std.proofs.Common.{inl, inr, refl}
use Rattle.prog_client.proofs.Networked.{same_dialer}
use Rattle.prog_client.proofs.dialing.converse_over.Goals as goal

pub returns-in-Ok : goal.returns-in-Ok
returns-in-Ok g c = λ first to start before d p. inl (record { begin = _; end = _; dialed = _; dials = d; conversed = c.converse-outcome.ensures c.args.ask start before c.start-client.ensures p; back = c.in-Ok.ensures })

pub returns-in-Err : goal.returns-in-Err
returns-in-Err g c = λ first to start before d p. inr (inl (record {
  begin = _;
  end = _;
  dials = same_dialer c.in-Err.ensures d;
  was = c.converse-outcome.result;
  conversed = c.converse-outcome.ensures c.args.ask start before c.start-client.ensures p;
  outcome_is = refl;
}))
