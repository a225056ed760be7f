use Rattle.std.proofs.Common.{◌≡◌, drop}
use Rattle.srv_session.specs.Views.{state_of, output_of}
use Rattle.srv_session.proofs.Pops.{Going}
use Rattle.srv_session.proofs.session.Session.pump.Given as goal

abbrev pub invariant-loop-i : goal.invariant-loop-i
invariant-loop-i g l = record {
  going : Going (g.D.Desk.seat l.fn.desk) (state_of l.fn.self) (output_of l.fn.self) (g.D.Desk.seat l.desk) (state_of l.self) (output_of l.self) (drop l.i l.fn.self.monitors.items) l.sent;
  monitors : l.self.monitors.items ≡ l.fn.self.monitors.items;
}
