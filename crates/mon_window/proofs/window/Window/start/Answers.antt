use Rattle.std.proofs.Common.{arith}
use Rattle.mon_window.proofs.Steps.{stands_first}
use Rattle.mon_window.proofs.window.Window.start.Goals as goal

pub returns-clause-stands : goal.returns-clause-stands
returns-clause-stands c = stands_first c.args.free (omega (arith, c.if-free-gt-GREATEST.false))
