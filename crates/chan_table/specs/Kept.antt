-- Values by their numbers, and how they lie in a slab behind an index of its keys.
use Rattle.std.specs.Prelude.{◌≡◌, ℕ, ◌≤◌, List, [], ◌∷◌, length, Option, None, Some, IsSome, refl}
use Rattle.std.specs.Coded.{Coded, code_by, coded×, coded_ℕ}
use Rattle.std.specs.Ordering.{nat_cmp}
use Rattle.std.specs.FinMap as map
use Rattle.slab.specs.Slab as slab

-- The values by their numbers, and how many of them fit without more memory.
pub record Kept (V : Type 0) : Type 0 where
  pub values : map.FinMap nat_cmp V
  pub room : ℕ

-- they are stored as the pair of these
abbrev pub kept_code : {V : Type 0} → Coded V → Coded (Kept V)
kept_code {V} code =
    code_by (map.FinMap nat_cmp V × ℕ) (coded× (map.code coded_ℕ code) coded_ℕ)
    (λ k. (k.values, k.room)) (λ p. record { values = p.0; room = p.1 }) (λ _. refl)

-- the map with this at a number, or with nothing there
abbrev pub with_at : {V : Type 0} → map.FinMap nat_cmp V → ℕ → Option V → map.FinMap nat_cmp V
with_at m n None = map.remove m n
with_at m n (Some v) = map.insert m n v

-- what the slab has under the keys of these entries
unfoldable pub gathered : {V : Type 0} → List (ℕ × ℕ) → slab.Slab V → map.FinMap nat_cmp V
gathered [] s = map.empty
gathered (e ∷ es) s = with_at (gathered es s) e.0 (slab.get s e.1)

-- Each key has a value, no two numbers have one key, and nothing else is in the slab. There is as much room as is said.
pub record IsSound {V : Type 0} (es : List (ℕ × ℕ)) (s : slab.Slab V) (room most : ℕ) : Type 0 where
  pub stored : (n k : ℕ) → map.find nat_cmp n es ≡ Some k → IsSome (slab.get s k)
  pub apart : (n m k : ℕ) → map.find nat_cmp n es ≡ Some k → map.find nat_cmp m es ≡ Some k → n ≡ m
  pub counted : slab.slab_len s ≡ length es
  pub sized : map.len (gathered es s) ≡ length es
  pub few : length es ≤ room
  pub in_slab : room ≤ s.capacity
  pub in_index : room ≤ most

-- with another value at a number
abbrev pub with_value : {V : Type 0} → Kept V → ℕ → V → Kept V
with_value k n v = record k { values = map.insert k.values n v }
