use Rattle.std.proofs.Common.{length, refl, ap, arith}
use Rattle.pva_search.specs.Finding.{Finding}
use Rattle.cli_search.specs.Calls.{view_of}
use Rattle.cli_search.proofs.Asking.{asked_sent, unasked_before}
use Rattle.cli_search.proofs.searching.Searching.ask.Goals as goal

pub returns-then-self-clause-asks : goal.returns-then-self-clause-asks
returns-then-self-clause-asks g c = λ s round b. (refl, omega arith)

pub returns-in_default-clause-open : goal.returns-in_default-clause-open
returns-in_default-clause-open g c = ap (λ (f : Finding). f.servers) c.in_default.ensures.1

pub returns-in_default-asked-clause-open : goal.returns-in_default-asked-clause-open
returns-in_default-asked-clause-open g c = let x = rw c.in_default-asked.is at c.in-Ok.ensures in ap (λ (f : Finding). f.servers) x.1

pub returns-in_default-asked-clause-asks : goal.returns-in_default-asked-clause-asks
returns-in_default-asked-clause-asks g c = λ s round b.
    let x = rw c.in_default-asked.is at c.in-Ok.ensures in
    absurd (omega (arith, ap length x.0, ap length (unasked_before s round (view_of c.args.self.now) b)))

pub returns-clause-open : goal.returns-clause-open
returns-clause-open g c = let x = rw c.in-Some.is at c.in-Ok.ensures in ap (λ (f : Finding). f.servers) x.kept

pub returns-clause-asks : goal.returns-clause-asks
returns-clause-asks g c = λ s round b.
    let x = rw c.in-Some.is at c.in-Ok.ensures in
    asked_sent s round (view_of c.args.self.now) _ b c.in-Some.datagram.items x refl refl refl (omega arith) _ _ c.deref.result.now c.deref.ensures.value c.send.result c.send.ensures

pub returns-in_default-clause-left : goal.returns-in_default-clause-left
returns-in_default-clause-left g c = ap (λ (f : Finding). f.rounds) c.in_default.ensures.1

pub returns-in_default-asked-clause-left : goal.returns-in_default-asked-clause-left
returns-in_default-asked-clause-left g c = let x = rw c.in_default-asked.is at c.in-Ok.ensures in ap (λ (f : Finding). f.rounds) x.1

pub returns-clause-left : goal.returns-clause-left
returns-clause-left g c = let x = rw c.in-Some.is at c.in-Ok.ensures in ap (λ (f : Finding). f.rounds) x.kept
