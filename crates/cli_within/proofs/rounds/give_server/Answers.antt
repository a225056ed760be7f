use Rattle.std.proofs.Common.{◌∙◌, ◌++◌, ℕ, List, Ok, Err, ap, sym, subst, refl, take, length, arith}
use Rattle.std.specs.Prelude.{is_some}
use Rattle.std.proofs.lemmas.Bool.{both_ways}
use Rattle.srv_stream.specs.Streams.{moment_told}
use Rattle.cli_within.specs.Ends.{client_view}
use Rattle.cli_within.specs.Rounding.{sides}
use Rattle.cli_within.specs.Serving.{HasBroken, HasServed, over_of, served_view}
use Rattle.cli_within.proofs.Rounding.{gave_broken, gave_some, hears_for, is_open, some_taken}
use Rattle.cli_within.proofs.rounds.give_server.Goals as goal

pub returns-then-count-eq0-clause-gives : goal.returns-then-count-eq0-clause-gives
returns-then-count-eq0-clause-gives g c = λ f given taken printed faults told p. (p, λ none. sym c.output-output.ensures ∙ c.count_of-count.ensures.none c.if-count-eq0.true)

pub returns-then-is_over-clause-gives : goal.returns-then-is_over-clause-gives
returns-then-is_over-clause-gives g c = λ f given taken printed faults told p. (p, λ none. absurd (both_ways (is_some (over_of c.args.server.now)) (ap is_some none) (sym c.is_over.ensures ∙ c.if-is_over.true)))

pub hear-requires-clause-open : goal.hear-requires-clause-open
hear-requires-clause-open g c = is_open (over_of c.args.server.now) c.is_over.result c.is_over.ensures c.if-is_over.false

pub hear-requires-clause-ready : goal.hear-requires-clause-ready
hear-requires-clause-ready g c = c.requires.ready (is_open (over_of c.args.server.now) c.is_over.result c.is_over.ensures c.if-is_over.false)

pub returns-in_default-clause-gives : goal.returns-in_default-clause-gives
returns-in_default-clause-gives g c = λ f given taken printed faults told p.
    let x = sides c.args.client.now c.args.server.now (g.D.Desk.seat c.args.desk.now) printed faults in
    let y = sides c.args.client.now c.hear.new.self (g.D.Desk.seat c.hear.new.desk) printed faults in
    let output : List ℕ = (client_view c.args.client.now).client.output in
    let n : ℕ = c.count_of-count.result in
    let some = some_taken c.args.piece output n (omega (arith, c.count_of-count.ensures.within, ap length c.output-output.ensures)) c.count_of-count.ensures.few (λ zero. absurd (omega (arith, zero, c.if-count-eq0.false))) in
    let broken = hears_for f (moment_told (g.C.Clock.moment c.args.clock.now)) (g.D.Desk.seat c.args.desk.now) (g.D.Desk.seat c.hear.new.desk) given taken (take n c.output-output.result.now) (served_view c.args.server.now) (served_view c.hear.new.self)
    (over_of c.args.server.now) (over_of c.hear.new.self) (Err c.in_default.field-0) told (is_open (over_of c.args.server.now) c.is_over.result c.is_over.ensures c.if-is_over.false) (λ first heard given h. c.in_default.ensures.serves first heard given h) p.server in
    gave_broken {x = x} y n p some.1 refl refl (subst (λ (l : List ℕ). HasBroken f.first y.seat f.told (given ++ take n l) taken y.view) c.output-output.ensures broken)

pub took-requires : goal.took-requires
took-requires g c = omega (arith, c.count_of-count.ensures.within, ap length c.output-output.ensures)

pub returns-clause-gives : goal.returns-clause-gives
returns-clause-gives g c = λ f given taken printed faults told p.
    let x = sides c.args.client.now c.args.server.now (g.D.Desk.seat c.args.desk.now) printed faults in
    let y = sides c.took.new.self c.hear.new.self (g.D.Desk.seat c.hear.new.desk) printed faults in
    let output : List ℕ = (client_view c.args.client.now).client.output in
    let n : ℕ = c.count_of-count.result in
    let some = some_taken c.args.piece output n (omega (arith, c.count_of-count.ensures.within, ap length c.output-output.ensures)) c.count_of-count.ensures.few (λ zero. absurd (omega (arith, zero, c.if-count-eq0.false))) in
    let served = hears_for f (moment_told (g.C.Clock.moment c.args.clock.now)) (g.D.Desk.seat c.args.desk.now) (g.D.Desk.seat c.hear.new.desk) given taken (take n c.output-output.result.now) (served_view c.args.server.now) (served_view c.hear.new.self)
    (over_of c.args.server.now) (over_of c.hear.new.self) (Ok tt) told (is_open (over_of c.args.server.now) c.is_over.result c.is_over.ensures c.if-is_over.false) (λ first heard given h. c.in-Ok.ensures.serves first heard given h) p.server in
    gave_some {x = x} y (take n output) p some.0 some.1 (c.took.ensures f.ask taken given p.client) refl refl
    (subst (λ (l : List ℕ). HasServed f.first y.seat f.told (given ++ take n l) taken y.view y.over) c.output-output.ensures served)
