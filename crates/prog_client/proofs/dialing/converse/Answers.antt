use Rattle.std.proofs.Common.{ℕ, ◌+◌, ◌≤◌, sym, subst, arith}
use Rattle.cli_within.specs.Ends.{client_view}
use Rattle.prog_client.proofs.Conversing.{Conversing, conversing_ended, conversing_on, conversing_start, conversing_stopped, idles_within}
use Rattle.prog_client.proofs.dialing.converse.Goals as goal

pub turns-init : goal.turns-init
turns-init g c = record { within = omega arith; idle = omega arith; conversing = λ ask start before h p. conversing_start ask _ start _ before _ (client_view c.args.client) h p }

pub turns-preserved : goal.turns-preserved
turns-preserved g c = record {
  within = omega (arith, c.in-Call.ensures.2);
  idle = subst (λ (n : ℕ). n ≤ c.args.patience.idle) (sym c.idles_after-idles.ensures) (idles_within c.turns.idles c.in-Ok.moved c.args.patience.idle c.in-Call.ensures.1);
  conversing = λ ask start before h p.
      subst (λ (n : ℕ). Conversing ask (g.L.Link.wire c.args.link.now) (g.L.Link.wire c.turn.new.link) start (g.S.Sink.written c.turn.new.sink) before (g.S.Sink.faults c.turn.new.sink) (client_view c.turn.new.client) (c.turns.calls + 1) n) (sym c.idles_after-idles.ensures)
      (conversing_on (c.turns.invariant.conversing ask start before h p) _ _ _ (client_view c.turn.new.client) c.in-Ok.moved c.in-Ok.ensures);
}

pub turns-smaller : goal.turns-smaller
turns-smaller g c = omega (arith, c.in-Call.ensures.2)

pub returns-in-Err : goal.returns-in-Err
returns-in-Err g c = λ ask start before h p. conversing_stopped (c.turns.invariant.conversing ask start before h p) c.args.patience _ _ _ (client_view c.turn.new.client) c.in-Err.outcome c.in-Call.ensures.0 c.in-Err.ensures

pub returns-in-End : goal.returns-in-End
returns-in-End g c = λ ask start before h p. conversing_ended (c.turns.invariant.conversing ask start before h p) c.args.patience c.in-End.outcome c.in-End.ensures

pub idles_after-idles-requires : goal.idles_after-idles-requires
idles_after-idles-requires g c = c.in-Call.ensures.1
