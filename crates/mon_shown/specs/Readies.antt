-- What was made ready for an entry, by slots.
use Rattle.std.specs.Prelude.{◌==◌, ◌&&◌, ℕ, Bool, true, List, [], ◌∷◌, Option, None, Some, is_none, if◌then◌else◌}
use Rattle.mon_shown.specs.declared.watching.Ready.{Ready}

-- what was made ready for the slot
abbrev pub found_for : ℕ → List (ℕ × Ready) → Option Ready
found_for slot [] = None
found_for slot (p ∷ more) = if p.0 == slot then Some p.1 else found_for slot more

-- no slot stands there twice
abbrev pub are_apart : List (ℕ × Ready) → Bool
are_apart [] = true
are_apart (p ∷ more) = is_none (found_for p.0 more) && are_apart more
