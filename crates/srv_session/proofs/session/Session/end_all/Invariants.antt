use Rattle.std.specs.FinMap.{len}
use Rattle.srv_session.specs.State.{slots_of}
use Rattle.srv_session.proofs.Ending.{Ends}
use Rattle.srv_session.proofs.session.Session.end_all.Given as goal

abbrev pub invariant-loop-req : goal.invariant-loop-req
invariant-loop-req g l = Ends (g.D.Desk.seat l.fn.desk) (slots_of l.fn.self.table.asks) (g.D.Desk.seat l.desk) (slots_of l.self.table.asks)

abbrev pub decreases-loop-req : goal.decreases-loop-req
decreases-loop-req g l = len l.self.table.asks
