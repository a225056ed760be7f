use Rattle.std.proofs.Common.{arith}
use Rattle.mon_window.proofs.Steps.{stands_acknowledged}
use Rattle.mon_window.proofs.window.Window.acknowledge.Goals as goal

pub returns-clause-stands : goal.returns-clause-stands
returns-clause-stands c = λ first steps s.
    stands_acknowledged c.self.inside.free first c.args.count steps (omega (arith, c.if-count-self.false, c.self.invariant)) (rw c.self.view_is s)
