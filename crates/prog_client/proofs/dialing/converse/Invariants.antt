use Rattle.std.proofs.Common.{ℕ, ◌≤◌, ◌-◌, List, [], Option}
use Rattle.cli_session.specs.declared.ask.Ask.{Ask}
use Rattle.prog_client.specs.Dialing.{name_line}
use Rattle.cli_within.specs.Ends.{HasPrinted, HasTaken, client_view}
use Rattle.prog_client.proofs.Conversing.{Conversing}
use Rattle.prog_client.proofs.dialing.converse.Given as goal

abbrev pub invariant-turns : goal.invariant-turns
invariant-turns g l = record {
  within : l.calls ≤ l.patience.turns;
  idle : l.idles ≤ l.patience.idle;
  conversing : (ask : Ask) (start : Option (List ℕ)) (before : ℕ) → HasTaken ask [] [] (client_view l.fn.client) → HasPrinted start (g.S.Sink.written l.fn.sink) before (g.S.Sink.faults l.fn.sink) (name_line ask)
      → Conversing ask (g.L.Link.wire l.fn.link) (g.L.Link.wire l.link) start (g.S.Sink.written l.sink) before (g.S.Sink.faults l.sink) (client_view l.client) l.calls l.idles;
}

abbrev pub decreases-turns : goal.decreases-turns
decreases-turns g l = l.patience.turns - l.calls
