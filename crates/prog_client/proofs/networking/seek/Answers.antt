use Rattle.std.proofs.Common.{ℕ, List, length, inl, inr, refl, ap, subst, arith}
use Rattle.cli_search.specs.Searching.{Searches}
use Rattle.cli_search.specs.declared.plan.Searched.TheVariants as ends
use Rattle.prog_client.proofs.Networked.{found_few}
use Rattle.prog_client.proofs.networking.seek.Goals as goal

pub returns-in_default : goal.returns-in_default
returns-in_default g c = λ start before p. inr (record { outcome_is = refl; unsent = refl; undialed = refl; printed = p })

pub find-requires-clause-short : goal.find-requires-clause-short
find-requires-clause-short g c = omega (arith, ap length c.in-Ok.ensures, c.requires.short)

pub overflow_sub-patience : goal.overflow_sub-patience
overflow_sub-patience g c = found_few c.in-Ok.name c.args.plan (g.G.Datagrams.datagrams c.args.datagrams.now) (g.G.Datagrams.datagrams c.find.new.datagrams) c.in-Found.server c.in-Found.calls c.in-Found.ensures

pub returns-in-Found : goal.returns-in-Found
returns-in-Found g c = λ start before p. inl (record {
  searched = ends.Found c.in-Found.server c.in-Found.calls;
  searches = subst (λ (n : List ℕ). Searches n c.args.plan (g.G.Datagrams.datagrams c.args.datagrams.now) (g.G.Datagrams.datagrams c.find.new.datagrams) (ends.Found c.in-Found.server c.in-Found.calls)) c.in-Ok.ensures c.in-Found.ensures;
  goes_on = c.operate.ensures start before p;
})

pub returns-in-Unfound : goal.returns-in-Unfound
returns-in-Unfound g c = λ start before p. inl (record {
  searched = ends.Unfound;
  searches = subst (λ (n : List ℕ). Searches n c.args.plan (g.G.Datagrams.datagrams c.args.datagrams.now) (g.G.Datagrams.datagrams c.find.new.datagrams) ends.Unfound) c.in-Ok.ensures c.in-Unfound.ensures;
  goes_on = record { outcome_is = refl; undialed = refl; printed = p };
})

pub returns-in-Failed : goal.returns-in-Failed
returns-in-Failed g c = λ start before p. inl (record {
  searched = ends.Failed;
  searches = subst (λ (n : List ℕ). Searches n c.args.plan (g.G.Datagrams.datagrams c.args.datagrams.now) (g.G.Datagrams.datagrams c.find.new.datagrams) ends.Failed) c.in-Ok.ensures c.in-Failed.ensures;
  goes_on = record { outcome_is = refl; undialed = refl; printed = p };
})

pub returns-in-Spent : goal.returns-in-Spent
returns-in-Spent g c = λ start before p. inl (record {
  searched = ends.Spent;
  searches = subst (λ (n : List ℕ). Searches n c.args.plan (g.G.Datagrams.datagrams c.args.datagrams.now) (g.G.Datagrams.datagrams c.find.new.datagrams) ends.Spent) c.in-Ok.ensures c.in-Spent.ensures;
  goes_on = record { outcome_is = refl; undialed = refl; printed = p };
})

pub returns-in-NoMemory : goal.returns-in-NoMemory
returns-in-NoMemory g c = λ start before p. inl (record {
  searched = ends.NoMemory;
  searches = subst (λ (n : List ℕ). Searches n c.args.plan (g.G.Datagrams.datagrams c.args.datagrams.now) (g.G.Datagrams.datagrams c.find.new.datagrams) ends.NoMemory) c.in-Ok.ensures c.in-NoMemory.ensures;
  goes_on = record { outcome_is = refl; undialed = refl; printed = p };
})
