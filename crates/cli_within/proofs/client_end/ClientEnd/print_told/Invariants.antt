use Rattle.std.proofs.Common.{length}
use Rattle.cli_within.specs.Ends.{client_view}
use Rattle.cli_within.proofs.Hearing.{ToldSoFar}
use Rattle.cli_within.proofs.client_end.ClientEnd.print_told.Given as goal

abbrev pub invariant-reports : goal.invariant-reports
invariant-reports g l = ToldSoFar (client_view l.fn.self) (client_view l.self) (g.S.Sink.written l.fn.sink) (g.S.Sink.written l.sink) (g.S.Sink.faults l.fn.sink) (g.S.Sink.faults l.sink)

abbrev pub decreases-reports : goal.decreases-reports
decreases-reports g l = length (client_view l.self).client.told
