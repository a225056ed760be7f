use Rattle.std.proofs.Common.{◌∙◌, length, refl, sym, ap, subst, arith}
use Rattle.cli_search.specs.Calls.{Ends, View, view_of}
use Rattle.cli_search.specs.declared.plan.Searched.{Searched}
use Rattle.cli_search.proofs.Rounding.{sofar_ended, sofar_found, sofar_more, sofar_none, sofar_stopped, turned_less, turned_within}
use Rattle.cli_search.proofs.searching.Searching.run.Goals as goal

pub rounds-init : goal.rounds-init
rounds-init g c = record { open_ = c.requires.open; within = omega (arith, c.requires.none); sofar = λ s b. sofar_none s _ (view_of c.args.self.now) b c.requires.none }

pub returns-in-Some : goal.returns-in-Some
returns-in-Some g c = λ s b.
    let f = c.rounds.invariant.sofar s b in
    let r = rw c.in-Some.is at (c.in-Ok.ensures.rounds s (length f.past) f.before) in sofar_found f r _ refl

pub rounds-preserved : goal.rounds-preserved
rounds-preserved g c =
    let t = rw c.if-more.true at c.turn-more.ensures in
    let kept = rw c.in-None.is at c.in-Ok.ensures in
    record {
      open_ = ap (λ (v : View). v.finding.servers) t.view ∙ kept.open refl;
      within = turned_within (view_of c.round.new.self) (view_of c.turn-more.new.self) t (kept.within refl);
      sofar = λ s b.
          let f = c.rounds.invariant.sofar s b in sofar_more f (kept.rounds s (length f.past) f.before) (view_of c.turn-more.new.self) t;
    }

pub rounds-smaller : goal.rounds-smaller
rounds-smaller g c =
    let t = rw c.if-more.true at c.turn-more.ensures in
    let kept = rw c.in-None.is at c.in-Ok.ensures in turned_less (view_of c.rounds.self) (view_of c.round.new.self) (view_of c.turn-more.new.self) (kept.left refl) t

pub returns-in-None : goal.returns-in-None
returns-in-None g c = λ s b.
    let f = c.rounds.invariant.sofar s b in
    let kept = rw c.in-None.is at c.in-Ok.ensures in sofar_ended f (kept.rounds s (length f.past) f.before) (rw c.if-more.false at c.turn-more.ensures)

pub returns-in-Err : goal.returns-in-Err
returns-in-Err g c = λ s b.
    let f = c.rounds.invariant.sofar s b in
    subst (λ (e : Searched). Ends s c.args.self.now.plan.turns (g.G.Datagrams.datagrams c.args.datagrams.now) (g.G.Datagrams.datagrams c.round.new.datagrams) e) (sym c.stopped.ensures)
    (sofar_stopped f (g.G.Datagrams.datagrams c.round.new.datagrams) (view_of c.round.new.self) c.in-Err.stop (c.in-Err.ensures.rounds s (length f.past) f.before))
