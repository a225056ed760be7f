-- What is known of the system's clock: which runtime it reads, and how a time becomes a moment. What the runtime gives
-- nothing tells.
use Rattle.std.specs.Prelude.{◌≡◌, ℕ, ℤ, pos, ◌/◌, ◌%◌, ◌^◌, ◌<◌, ◌≤◌}
use Rattle.pva_outside.specs.declared.system_clock.SystemClock.{SystemClock}

abbrev pub clock_runtime : {R : Type 0} → SystemClock R → R
clock_runtime c = c.rt

-- The whole seconds of so many nanoseconds and the nanoseconds that remain, where the seconds fit 63 bits. Else (0, 0).
pub record IsMomentAt (nanoseconds : ℕ) (moment : ℤ × ℕ) : Type 0 where
  pub fits : nanoseconds / 1000000000 < 2 ^ 63 → moment ≡ (pos (nanoseconds / 1000000000), nanoseconds % 1000000000)
  pub beyond : 2 ^ 63 ≤ nanoseconds / 1000000000 → moment ≡ (pos 0, 0)
