-- Requests filed by their channels: the pairs of their sids and their ids, in rising order.
use Rattle.std.specs.Prelude.{◌≡◌, ℕ, Bool, false, cond, List, length, Option, None, Some, is_some, IsSome}
use Rattle.std.specs.declared.cmp.Ordering.{Ordering}
use Rattle.std.specs.Ordering.{nat_cmp, ordering_then, eq_by_cmp}
use Rattle.std.specs.FinMap.{FinMap, find, get, len}
use Rattle.chan_table.specs.declared.ask.Ask.{Ask}
use Rattle.chan_table.specs.Tables.{sid_at}

-- the pairs, each once
abbrev pub Filings : Type 0
Filings = List ((ℕ × ℕ) × Unit {0})

-- by the sid, then by the id
abbrev pub filed_cmp : ℕ × ℕ → ℕ × ℕ → Ordering
filed_cmp x y = ordering_then (nat_cmp x.0 y.0) (nat_cmp x.1 y.1)

-- the sid by which it is filed: its own, or the one that it had when it was lent
abbrev pub filed_at : {S : Type 0} → Option (ℕ × ℕ) → FinMap nat_cmp (Ask S) → ℕ → Option ℕ
filed_at None m id = sid_at m id
filed_at (Some lent) m id = cond (eq_by_cmp nat_cmp id lent.1) (Some lent.0) (sid_at m id)

-- whether that is this sid
abbrev pub is_at : Option ℕ → ℕ → Bool
is_at None sid = false
is_at (Some at) sid = eq_by_cmp nat_cmp sid at

-- Each request is filed, and nothing else; the one that was lent is there.
pub record IsFiled {S : Type 0} (es : Filings) (lent : Option (ℕ × ℕ)) (m : FinMap nat_cmp (Ask S)) : Type 0 where
  pub filed : (sid id : ℕ) → is_some (find filed_cmp (sid, id) es) ≡ is_at (filed_at lent m id) sid
  pub counted : length es ≡ len m
  pub there : (at : ℕ × ℕ) → lent ≡ Some at → IsSome (get m at.1)
