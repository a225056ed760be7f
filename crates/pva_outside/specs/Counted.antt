-- Counts that rise by a known number. A count stands still at 2^64 - 1, once it is there.
use Rattle.std.specs.Prelude.{ℕ, ◌+◌, ◌-◌, ◌^◌, min, max}

-- a count after so many more
abbrev pub counted : ℕ → ℕ → ℕ
counted from more = max from (min (from + more) (2 ^ 64 - 1))
