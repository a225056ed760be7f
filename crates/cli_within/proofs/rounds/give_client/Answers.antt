use Rattle.std.proofs.Common.{◌∙◌, ◌++◌, ℕ, List, Option, Ok, Err, ap, sym, subst, refl, take, length, arith}
use Rattle.cli_within.specs.Ends.{Hears}
use Rattle.cli_within.specs.Rounding.{sides}
use Rattle.srv_stream.specs.declared.ended.Ended.{Ended}
use Rattle.cli_within.specs.Serving.{HasFilled, served_view}
use Rattle.cli_within.proofs.Rounding.{answered_broken, answered_none, answered_some, answered_stopped, some_taken}
use Rattle.cli_within.proofs.rounds.give_client.Goals as goal

pub returns-in_default-clause-answers : goal.returns-in_default-clause-answers
returns-in_default-clause-answers g c = λ f given taken p. answered_broken c.args.piece p _ refl refl (c.in_default.ensures.fills f.first f.told given taken p.server)

pub returns-then-count-eq0-clause-answers : goal.returns-then-count-eq0-clause-answers
returns-then-count-eq0-clause-answers g c = λ f given taken p.
    answered_none c.args.piece p _ refl refl refl (c.in-Ok.ensures.fills f.first f.told given taken p.server) (sym c.output-output.ensures ∙ c.count_of-count.ensures.none c.if-count-eq0.true)

pub took-requires : goal.took-requires
took-requires g c = omega (arith, c.count_of-count.ensures.within, ap length c.output-output.ensures)

pub returns-in-Ok-hear-clause-answers : goal.returns-in-Ok-hear-clause-answers
returns-in-Ok-hear-clause-answers g c = λ f given taken p.
    let y = sides c.hear.new.self c.took.new.self (g.D.Desk.seat c.fill.new.desk) (g.S.Sink.written c.hear.new.sink) (g.S.Sink.faults c.hear.new.sink) in
    let mid = served_view c.fill.new.self in
    let n : ℕ = c.count_of-count.result in
    let some = some_taken c.args.piece mid.pending n (omega (arith, c.count_of-count.ensures.within, ap length c.output-output.ensures)) c.count_of-count.ensures.few (λ zero. absurd (omega (arith, zero, c.if-count-eq0.false))) in
    let filled = subst (λ (o : Option Ended). HasFilled f.first y.seat f.told given taken mid o) (sym c.took.ensures.over) (c.in-Ok.ensures.fills f.first f.told given taken p.server) in
    answered_some c.args.piece p y mid n filled some.0 some.1
    (subst (λ (l : List ℕ). Hears f.ask (taken ++ take n l) given y.client f.start y.printed f.before y.faults (Ok tt)) c.output-output.ensures (c.in-Ok-hear.ensures f.ask f.start f.before taken given p.client p.printed)) c.took.ensures.view

pub returns-in-Err-clause-answers : goal.returns-in-Err-clause-answers
returns-in-Err-clause-answers g c = λ f given taken p.
    let y = sides c.hear.new.self c.fill.new.self (g.D.Desk.seat c.fill.new.desk) (g.S.Sink.written c.hear.new.sink) (g.S.Sink.faults c.hear.new.sink) in
    let n : ℕ = c.count_of-count.result in
    let some = some_taken c.args.piece y.view.pending n (omega (arith, c.count_of-count.ensures.within, ap length c.output-output.ensures)) c.count_of-count.ensures.few (λ zero. absurd (omega (arith, zero, c.if-count-eq0.false))) in
    answered_stopped c.args.piece p y n c.in-Err.stop (c.in-Ok.ensures.fills f.first f.told given taken p.server) some.1
    (subst (λ (l : List ℕ). Hears f.ask (taken ++ take n l) given y.client f.start y.printed f.before y.faults (Err c.in-Err.stop)) c.output-output.ensures (c.in-Err.ensures f.ask f.start f.before taken given p.client p.printed))
