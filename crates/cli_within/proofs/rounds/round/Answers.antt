use Rattle.std.proofs.Common.{Bool, ◌||◌, ◌∙◌, Ok, ap, sym, subst}
use Rattle.cli_within.specs.Rounding.{Passes, sides}
use Rattle.cli_within.proofs.Rounding.{round_given_stop, round_passes, round_stuck}
use Rattle.cli_within.proofs.rounds.round.Goals as goal

pub returns-then-gave-clause-passes : goal.returns-then-gave-clause-passes
returns-then-gave-clause-passes g c = λ f made told m.
    let x = sides c.args.client.now c.args.server.now (g.D.Desk.seat c.args.desk.now) (g.S.Sink.written c.args.sink.now) (g.S.Sink.faults c.args.sink.now) in
    let y = sides c.give_server.new.client c.give_server.new.server (g.D.Desk.seat c.give_server.new.desk) (g.S.Sink.written c.args.sink.now) (g.S.Sink.faults c.args.sink.now) in
    let z = sides c.give_client.new.client c.give_client.new.server (g.D.Desk.seat c.give_client.new.desk) (g.S.Sink.written c.give_client.new.sink) (g.S.Sink.faults c.give_client.new.sink) in
    subst (λ (b : Bool). Passes f c.args.piece made z (Ok b)) (ap (λ (b : Bool). b || c.in-Ok-give_client.got) c.if-gave.true ∙ sym c.if-gave.true)
    (round_passes {x = x} y z c.in-Ok.gave c.in-Ok-give_client.got m (c.in-Ok.ensures.gives f m.given m.taken _ _ told m.passed) (λ given taken p. c.in-Ok-give_client.ensures.answers f given taken p) c.in-Ok-give_client.ensures.over
    (λ is. c.in-Ok-give_client.ensures.still (ap Ok is)))

pub returns-else-gave-clause-passes : goal.returns-else-gave-clause-passes
returns-else-gave-clause-passes g c = λ f made told m.
    let x = sides c.args.client.now c.args.server.now (g.D.Desk.seat c.args.desk.now) (g.S.Sink.written c.args.sink.now) (g.S.Sink.faults c.args.sink.now) in
    let y = sides c.give_server.new.client c.give_server.new.server (g.D.Desk.seat c.give_server.new.desk) (g.S.Sink.written c.args.sink.now) (g.S.Sink.faults c.args.sink.now) in
    let z = sides c.give_client.new.client c.give_client.new.server (g.D.Desk.seat c.give_client.new.desk) (g.S.Sink.written c.give_client.new.sink) (g.S.Sink.faults c.give_client.new.sink) in
    subst (λ (b : Bool). Passes f c.args.piece made z (Ok b)) (ap (λ (b : Bool). b || c.in-Ok-give_client.got) c.if-gave.false)
    (round_passes {x = x} y z c.in-Ok.gave c.in-Ok-give_client.got m (c.in-Ok.ensures.gives f m.given m.taken _ _ told m.passed) (λ given taken p. c.in-Ok-give_client.ensures.answers f given taken p) c.in-Ok-give_client.ensures.over
    (λ is. c.in-Ok-give_client.ensures.still (ap Ok is)))

pub returns-in-Err-give_client-clause-passes : goal.returns-in-Err-give_client-clause-passes
returns-in-Err-give_client-clause-passes g c = λ f made told m.
    round_stuck (sides c.give_server.new.client c.give_server.new.server (g.D.Desk.seat c.give_server.new.desk) (g.S.Sink.written c.args.sink.now) (g.S.Sink.faults c.args.sink.now)) _ c.in-Ok.gave c.in-Err-give_client.stop m
    (c.in-Ok.ensures.gives f m.given m.taken _ _ told m.passed) (λ given taken p. c.in-Err-give_client.ensures.answers f given taken p)

pub returns-in-Err-clause-passes : goal.returns-in-Err-clause-passes
returns-in-Err-clause-passes g c = λ f made told m. round_given_stop _ c.in-Err.stop m (c.in-Err.ensures.gives f m.given m.taken _ _ told m.passed)
