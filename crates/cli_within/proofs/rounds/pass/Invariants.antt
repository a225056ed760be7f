use Rattle.std.proofs.Common.{◌≡◌, ◌≤◌, ◌-◌, ◌++◌, ◌∷◌, [], None}
use Rattle.srv_stream.specs.Streams.{moment_told}
use Rattle.cli_within.specs.Ends.{HasPrinted, HasTaken, client_view}
use Rattle.cli_within.specs.Rounding.{Frame, HasMade, sides}
use Rattle.cli_within.specs.Serving.{IsLiving, IsReady, over_of, served_view}
use Rattle.cli_within.proofs.rounds.pass.Given as goal

abbrev pub invariant-rounds : goal.invariant-rounds
invariant-rounds g l = record {
  within : l.made ≤ l.limits.turns;
  living : IsLiving (g.D.Desk.seat l.desk) (served_view l.server);
  ready : over_of l.server ≡ None → IsReady (g.D.Desk.seat l.desk) (served_view l.server);
  passed : (f : Frame) → f.first ≡ g.D.Desk.seat l.fn.desk → f.told ≡ moment_told (g.C.Clock.moment l.clock) → HasTaken f.ask [] [] (client_view l.fn.client)
      → HasPrinted f.start (g.S.Sink.written l.fn.sink) f.before (g.S.Sink.faults l.fn.sink) (f.ask.name ++ 10 ∷ [])
      → HasMade f l.limits.piece l.made (sides l.client l.server (g.D.Desk.seat l.desk) (g.S.Sink.written l.sink) (g.S.Sink.faults l.sink));
}

abbrev pub decreases-rounds : goal.decreases-rounds
decreases-rounds g l = l.limits.turns - l.made
