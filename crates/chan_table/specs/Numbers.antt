-- Numbers at which a function gives something.
use Rattle.std.specs.Prelude.{◌≡◌, ℕ, ◌<◌, ◌≤◌, Option, None, IsSome, MatchOption}

-- The least number at which a function gives nothing.
pub record IsLeastAbsent {V : Type 0} (f : ℕ → Option V) (n : ℕ) : Type 0 where
  pub absent : f n ≡ None
  pub below : (k : ℕ) → k < n → IsSome (f k)

-- The least number at or above `from` at which a function gives something.
pub record IsNext {V : Type 0} (f : ℕ → Option V) (from n : ℕ) : Type 0 where
  pub present : IsSome (f n)
  pub above : from ≤ n
  pub least : (k : ℕ) → from ≤ k → k < n → f k ≡ None

-- A function gives nothing at or above `from`.
pub record IsNoneFrom {V : Type 0} (f : ℕ → Option V) (from : ℕ) : Type 0 where
  pub none : (k : ℕ) → from ≤ k → f k ≡ None

-- That least number, if there is one.
abbrev pub IsNextFrom : {V : Type 0} → (ℕ → Option V) → ℕ → Option ℕ → Type 0
IsNextFrom f from found = MatchOption found (IsNoneFrom f from) (IsNext f from)
