-- What a trigger names (QSRV manual, "Group PV definitions", `+trigger`).
use Rattle.std.specs.Prelude.{ℕ, suc, Bool, true, not, ◌||◌, List, [], ◌∷◌, length, map, ◌==◌, Option, None}
use Rattle.std.specs.Prelude.{is_some, position, reverse, if◌then◌else◌}
use Rattle.std.specs.List.{list_any, slice_split, filter_map}
use Rattle.std.specs.Str.{bytes_eq}

abbrev pub is_blank : ℕ → Bool
is_blank b = b == 32 || b == 9

abbrev pub trimmed_start : List ℕ → List ℕ
trimmed_start [] = []
trimmed_start (b ∷ bs) = if is_blank b then trimmed_start bs else b ∷ bs

abbrev pub trimmed_end : List ℕ → List ℕ
trimmed_end text = reverse (trimmed_start (reverse text))

-- a text without the blanks at its ends
abbrev pub trimmed : List ℕ → List ℕ
trimmed text = trimmed_end (trimmed_start text)

-- all members, or those of these names
pub data Trigger : Type 0 where
  all : Trigger
  those : List (List ℕ) → Trigger

-- `*`, nothing, or names that commas divide
unfoldable pub trigger_of : List ℕ → Trigger
trigger_of text =
    if bytes_eq (trimmed text) (42 ∷ []) then all
    else if length (trimmed text) == 0 then those []
    else those (map trimmed (slice_split (λ b. b == 44) text))

-- The number of the member that a trigger names. The empty name is none's.
abbrev pub number_of : List (List ℕ) → List ℕ → Option ℕ
number_of names name = if length name == 0 then None else position (bytes_eq name) names

-- whether each name is a member's
abbrev pub is_known : List (List ℕ) → Trigger → Bool
is_known names all = true
is_known names (those triggered) = not (list_any (λ name. not (is_some (number_of names name))) triggered)

-- the numbers from n on, as many as there are names
abbrev pub numbers_from : ℕ → List (List ℕ) → List ℕ
numbers_from n [] = []
numbers_from n (name ∷ names) = n ∷ numbers_from (suc n) names

-- the members that are triggered
abbrev pub numbers_in : List (List ℕ) → Trigger → List ℕ
numbers_in names all = numbers_from 0 names
numbers_in names (those triggered) = filter_map (number_of names) triggered
