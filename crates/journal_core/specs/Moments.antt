-- Moments as contracts see them: seconds and nanoseconds since 1970-01-01 00:00:00 UTC (Normative Types 1.0, "time_t").
use Rattle.std.specs.Prelude.{ℕ, ℤ}
use Rattle.rec_kinds.specs.Moments.{Instant}

abbrev pub Moment : Type 0
Moment = Instant

abbrev pub seconds_of : Moment → ℤ
seconds_of m = m.seconds

abbrev pub nanoseconds_of : Moment → ℕ
nanoseconds_of m = m.nanoseconds
