use Rattle.std.proofs.Common.{◌≡◌, ◌≤◌, [], ◌∷◌, None}
use Rattle.cli_search.specs.Calls.{IsBefore, view_of}
use Rattle.cli_search.specs.Searching.{Search}
use Rattle.cli_search.proofs.Rounding.{SoFar}
use Rattle.cli_search.proofs.searching.Searching.run.Given as goal

abbrev pub invariant-rounds : goal.invariant-rounds
invariant-rounds g l = record {
  open_ : l.self.finder.servers ≡ None ∷ [];
  within : l.self.calls ≤ l.self.plan.turns;
  sofar : (s : Search) → IsBefore s 0 (view_of l.fn.self) → SoFar s l.fn.self.plan.turns (g.G.Datagrams.datagrams l.fn.datagrams) (g.G.Datagrams.datagrams l.datagrams) (view_of l.self);
}

abbrev pub decreases-rounds : goal.decreases-rounds
decreases-rounds g l = l.self.finder.rounds
