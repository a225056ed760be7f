use Rattle.std.proofs.Common.{◌≡◌, ◌+◌, ◌-◌, arith, sym}
use Rattle.mon_window.proofs.Steps.{stands_sent}
use Rattle.mon_window.proofs.window.Window.take.Goals as goal

pub returns-clause-stands : goal.returns-clause-stands
returns-clause-stands c = λ some first steps s.
    let less : c.args.self.now ≡ c.self.inside.free - 1 + 1 = omega (arith, c.if-self-eq0.false, c.self.view_is) in
    stands_sent (c.self.inside.free - 1) first steps (rw (sym less) s)
