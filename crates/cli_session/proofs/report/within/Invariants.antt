use Rattle.cli_session.proofs.Marking.{HasBelow}
use Rattle.cli_session.proofs.report.within.Given as goal

abbrev pub invariant-loop-number : goal.invariant-loop-number
invariant-loop-number l = HasBelow l.found l.bits l.number
