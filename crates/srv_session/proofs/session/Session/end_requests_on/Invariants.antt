use Rattle.srv_session.specs.Views.{state_of, output_of}
use Rattle.std.specs.FinMap.{len}
use Rattle.srv_session.proofs.Ending.{Closing}
use Rattle.srv_session.proofs.session.Session.end_requests_on.Given as goal

abbrev pub invariant-loop-taken : goal.invariant-loop-taken
invariant-loop-taken g l =
    Closing (g.D.Desk.seat l.fn.desk) (state_of l.fn.self) (output_of l.fn.self) l.sid (g.D.Desk.seat l.desk) (state_of l.self) (output_of l.self)

abbrev pub decreases-loop-taken : goal.decreases-loop-taken
decreases-loop-taken g l = len l.self.table.asks
