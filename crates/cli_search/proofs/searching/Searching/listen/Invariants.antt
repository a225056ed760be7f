use Rattle.std.proofs.Common.{◌≤◌, ◌-◌}
use Rattle.cli_search.specs.Calls.{view_of}
use Rattle.cli_search.proofs.Listening.{ListenedSoFar}
use Rattle.cli_search.proofs.searching.Searching.listen.Given as goal

abbrev pub invariant-calls : goal.invariant-calls
invariant-calls g l = record {
  within : l.idles ≤ l.fn.self.plan.idle;
  sofar : ListenedSoFar (g.G.Datagrams.datagrams l.fn.datagrams) (g.G.Datagrams.datagrams l.datagrams) (view_of l.fn.self) (view_of l.self) l.idles;
}

abbrev pub decreases-calls : goal.decreases-calls
decreases-calls g l = l.self.plan.turns - l.self.calls
