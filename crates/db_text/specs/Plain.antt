-- A text that has nothing to replace and nothing to drop.
use Rattle.std.specs.Prelude.{◌≢◌, ℕ, List, [], ◌∷◌}
use Rattle.db_text.specs.Macros.{Macros}
use Rattle.db_text.specs.Expansion.{Expanded}

-- no `$`, no `#` and no quote
abbrev pub IsPlain : List ℕ → Type 0
IsPlain [] = Unit {0}
IsPlain (b ∷ bytes) = (b ≢ 36) × (b ≢ 35) × (b ≢ 34) × IsPlain bytes

abbrev pub PlainStays : Type 0
PlainStays = (ms : Macros) (text : List ℕ) → IsPlain text → Expanded ms text text
