-- What is known of the clock that stands still.
use Rattle.std.specs.Prelude.{ℕ, ℤ}
use Rattle.pva_outside.specs.declared.clock.FixedClock.{FixedClock}

-- where the clock stands
abbrev pub moment_of : FixedClock → ℤ × ℕ
moment_of c = (c.seconds, c.nanoseconds)
