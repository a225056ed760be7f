-- Numbers as the program reads them: those beyond 64 bits stay beyond.
use Rattle.std.specs.Prelude.{ℕ, ◌-◌, ◌^◌, min, ℤ, pos, negsuc}

abbrev pub clip : ℕ → ℕ
clip n = min n (2 ^ 64 - 1)

abbrev pub clip_int : ℤ → ℤ
clip_int (pos n) = pos (clip n)
clip_int (negsuc n) = negsuc (min n (2 ^ 64 - 2))
