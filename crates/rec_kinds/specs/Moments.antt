-- Moments of time (Normative Types, "time_t").
use Rattle.std.specs.Prelude.{ℕ, ℤ, pos}

pub record Instant : Type 0 where
  pub seconds : ℤ
  pub nanoseconds : ℕ

-- the moment of a record that was never processed
abbrev pub never : Instant
never = record { seconds = pos 0; nanoseconds = 0 }
