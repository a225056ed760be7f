use Rattle.std.proofs.Common.{length}
use Rattle.cli_within.specs.Ends.{client_view}
use Rattle.cli_within.proofs.Ready.{ReadySoFar}
use Rattle.cli_within.proofs.client_end.ClientEnd.hear_ready.Given as goal

abbrev pub invariant-events : goal.invariant-events
invariant-events g l = ReadySoFar (client_view l.fn.self) (client_view l.self) (g.S.Sink.written l.fn.sink) (g.S.Sink.written l.sink) (g.S.Sink.faults l.fn.sink) (g.S.Sink.faults l.sink)

abbrev pub decreases-events : goal.decreases-events
decreases-events g l = length (client_view l.self).stream.events
