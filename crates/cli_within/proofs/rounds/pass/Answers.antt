use Rattle.std.proofs.Common.{◌∙◌, ◌-◌, Bool, ap, sym, subst, refl, arith, Ok}
use Rattle.cli_within.specs.Ends.{ClientView}
use Rattle.cli_within.specs.Exchanging.{end_at_rest}
use Rattle.cli_within.specs.Rounding.{Passes, sides}
use Rattle.cli_within.specs.Serving.{over_of, served_view}
use Rattle.cli_within.proofs.Exchanged.{exchange_at_rest, exchange_so, exchange_spent, exchange_stuck_behind, exchange_told, not_ended}
use Rattle.cli_within.proofs.Rounding.{living_first, made_none, ready_first}
use Rattle.cli_within.proofs.rounds.pass.Goals as goal

pub rounds-init : goal.rounds-init
rounds-init g c = record {
  within = omega arith;
  living = living_first (g.D.Desk.seat c.args.desk.now) (served_view c.args.server.now) c.requires.view;
  ready = λ none. ready_first (g.D.Desk.seat c.args.desk.now) (served_view c.args.server.now) c.requires.view;
  passed = λ f first told taken printed. made_none _ taken printed c.has_legal_history.ensures first c.requires.view c.requires.over;
}

pub returns-in-Some-clause-living : goal.returns-in-Some-clause-living
returns-in-Some-clause-living g c = c.rounds.invariant.living

pub returns-in-Some-clause-ends : goal.returns-in-Some-clause-ends
returns-in-Some-clause-ends g c = λ f last first told taken printed finished.
    exchange_told c.args.limits.idle c.args.limits.turns c.rounds.invariant.within c.in-Some.ending (c.rounds.invariant.passed f first told taken printed) finished (sym c.ended.ensures ∙ c.in-Some.is)

pub returns-then-made-limits-clause-living : goal.returns-then-made-limits-clause-living
returns-then-made-limits-clause-living g c = c.rounds.invariant.living

pub returns-then-made-limits-clause-ends : goal.returns-then-made-limits-clause-ends
returns-then-made-limits-clause-ends g c = λ f last first told taken printed finished.
    exchange_spent c.args.limits.idle c.args.limits.turns c.rounds.invariant.within (c.rounds.invariant.passed f first told taken printed) finished (sym c.ended.ensures ∙ not_ended c.ended.result c.in_default.not-Some) c.if-made-limits.true

pub round-requires-clause-some : goal.round-requires-clause-some
round-requires-clause-some g c = c.requires.some

pub round-requires-clause-living : goal.round-requires-clause-living
round-requires-clause-living g c = c.rounds.invariant.living

pub round-requires-clause-ready : goal.round-requires-clause-ready
round-requires-clause-ready g c = c.rounds.invariant.ready

pub rounds-preserved : goal.rounds-preserved
rounds-preserved g c =
    let x = sides c.round.new.client c.round.new.server (g.D.Desk.seat c.round.new.desk) (g.S.Sink.written c.round.new.sink) (g.S.Sink.faults c.round.new.sink) in
    record {
      within = omega (arith, c.rounds.invariant.within, c.if-made-limits.false);
      living = c.round.ensures.living;
      ready = c.in-Ok-true.ensures.ready;
      passed = λ f first told taken printed.
          subst (λ (b : Bool). Passes f c.args.limits.piece c.rounds.made x (Ok b)) c.in-Ok-true.field-0-test
          (c.in-Ok-true.ensures.passes f c.rounds.made told (c.rounds.invariant.passed f first told taken printed));
    }

pub rounds-smaller : goal.rounds-smaller
rounds-smaller g c = omega (arith, c.rounds.invariant.within, c.if-made-limits.false)

pub returns-in-Ok-false-clause-living : goal.returns-in-Ok-false-clause-living
returns-in-Ok-false-clause-living g c = c.round.ensures.living

pub returns-in-Ok-false-clause-ends : goal.returns-in-Ok-false-clause-ends
returns-in-Ok-false-clause-ends g c = λ f last first told taken printed finished.
    let x = sides c.round.new.client c.round.new.server (g.D.Desk.seat c.round.new.desk) (g.S.Sink.written c.round.new.sink) (g.S.Sink.faults c.round.new.sink) in
    let rests = subst (λ (b : Bool). Passes f c.args.limits.piece c.rounds.made x (Ok b)) c.in-Ok-false.field-0-test (c.in-Ok-false.ensures.passes f c.rounds.made told (c.rounds.invariant.passed f first told taken printed)) in
    let over = over_of c.round.new.server in
    let still = ap (λ (v : ClientView). v.ended) (c.in-Ok-false.ensures.still (ap Ok c.in-Ok-false.field-0-test)) in
    exchange_so _ c.end_at_rest.result (c.end_at_rest.ensures ∙ ap (λ (b : Bool). end_at_rest b (c.args.limits.turns - c.rounds.made) c.args.limits.idle) c.is_over.ensures)
    (exchange_at_rest c.args.limits.idle c.args.limits.turns c.rounds.invariant.within rests over refl finished (still ∙ sym c.ended.ensures ∙ not_ended c.ended.result c.in_default.not-Some))

pub returns-in-Err-clause-living : goal.returns-in-Err-clause-living
returns-in-Err-clause-living g c = c.round.ensures.living

pub returns-in-Err-clause-ends : goal.returns-in-Err-clause-ends
returns-in-Err-clause-ends g c = λ f last first told taken printed finished.
    exchange_stuck_behind c.args.limits.idle c.args.limits.turns c.in-Err.stop (omega (arith, c.rounds.invariant.within, c.if-made-limits.false)) (c.in-Err.ensures.passes f c.rounds.made told (c.rounds.invariant.passed f first told taken printed)) finished
