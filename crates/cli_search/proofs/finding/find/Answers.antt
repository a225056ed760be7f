use Rattle.std.proofs.Common.{inr, refl, ap}
use Rattle.cli_search.specs.Calls.{View, view_of}
use Rattle.cli_search.proofs.Rounding.{searched, searched_open}
use Rattle.cli_search.proofs.finding.find.Goals as goal

pub returns-in_default : goal.returns-in_default
returns-in_default g c = inr (record { binds = (refl, refl); others = refl })

pub returns-in_default-vec : goal.returns-in_default-vec
returns-in_default-vec g c = inr (record { binds = (refl, refl); others = refl })

pub run-searched-requires-clause-open : goal.run-searched-requires-clause-open
run-searched-requires-clause-open g c = searched_open c.in-Ok.finder c.args.name c.args.plan c.in-Bound.port (view_of c.new-searching.result) c.in-Ok.ensures.made c.new-searching.ensures

pub run-searched-requires-clause-none : goal.run-searched-requires-clause-none
run-searched-requires-clause-none g c = ap (λ (v : View). v.calls) c.new-searching.ensures

pub returns-in-Bound : goal.returns-in-Bound
returns-in-Bound g c =
    searched c.args.name c.args.plan c.in-Bound.port (g.G.Datagrams.datagrams c.args.datagrams.now) (g.G.Datagrams.datagrams c.bind.new.self) (g.G.Datagrams.datagrams c.run-searched.new.datagrams) c.in-Ok.finder (view_of c.new-searching.result) c.run-searched.result
    c.in-Ok.ensures.made c.requires.rounds c.in-Ok.ensures.small c.new-searching.ensures c.in-Bound.ensures c.run-searched.ensures

pub returns-in-Failed : goal.returns-in-Failed
returns-in-Failed g c = inr c.in-Failed.ensures

pub returns-in-NoMemory : goal.returns-in-NoMemory
returns-in-NoMemory g c = inr c.in-NoMemory.ensures
