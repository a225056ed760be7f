-- Entries in the rising order of their keys.
use Rattle.std.specs.Prelude.{◌≡◌, ℕ, false, true, List, Option, None, Some, MatchOption}
use Rattle.std.specs.declared.cmp.Ordering.{Ordering}
use Rattle.std.specs.Ordering.{is_lt}
use Rattle.std.specs.List.{prefix_len}
use Rattle.std.specs.FinMap.{find}

-- how many entries at the front have keys below k
abbrev pub place : {K V : Type 0} → (K → K → Ordering) → K → List (K × V) → ℕ
place R k es = prefix_len (λ e. is_lt (R e.0 k)) es

-- No key is at or above `from`.
pub record AllBelow {K V : Type 0} (R : K → K → Ordering) (es : List (K × V)) (from : K) : Type 0 where
  pub none : (k : K) → is_lt (R k from) ≡ false → find R k es ≡ None

-- An entry is there, its key is at or above `from`, and no key between the two is there.
pub record IsFirst {K V : Type 0} (R : K → K → Ordering) (es : List (K × V)) (from : K) (e : K × V)
    : Type 0 where
  pub found : find R e.0 es ≡ Some e.1
  pub above : is_lt (R e.0 from) ≡ false
  pub least : (k : K) → is_lt (R k from) ≡ false → is_lt (R k e.0) ≡ true → find R k es ≡ None

-- The first entry at or above `from`, if there is one.
abbrev pub IsFirstFrom : {K V : Type 0} → (K → K → Ordering) → List (K × V) → K → Option (K × V) → Type 0
IsFirstFrom R es from found = MatchOption found (AllBelow R es from) (IsFirst R es from)
