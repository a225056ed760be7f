-- The numbers that texts spell: decimal with an optional sign, or `0x` and hexadecimal digits.
use Rattle.std.specs.Prelude.{ℕ, ◌+◌, ◌-◌, ◌*◌, ℤ, pos, neg_ℤ, nat_eq, nat_lt, List, [], ◌∷◌, drop, Option, None, Some, option_map, codes, if◌then◌else◌}
use Rattle.std.specs.Int.{is_in_range}
use Rattle.std.specs.List.{starts_with}
use Rattle.std.specs.Option.{option_and_then}
use Rattle.rec_kinds.specs.Sorts.{within}

-- the value of a hexadecimal digit
abbrev pub hex_digit : ℕ → Option ℕ
hex_digit c =
    if is_in_range 48 57 c then Some (c - 48) else (
    if is_in_range 97 102 c then Some (c - 87) else (
    if is_in_range 65 70 c then Some (c - 55) else None))

abbrev pub below : ℕ → ℕ → Option ℕ
below base value = if nat_lt value base then Some value else None

-- the value of a digit of a base
abbrev pub digit : ℕ → ℕ → Option ℕ
digit base c = option_and_then (below base) (hex_digit c)

-- the number that digits spell after those that spell n, where all of them are digits of the base
abbrev pub spelled_after : ℕ → ℕ → List ℕ → Option ℕ
spelled_after base n [] = Some n
spelled_after base n (c ∷ cs) = option_and_then (λ d. spelled_after base (n * base + d) cs) (digit base c)

-- the number that one or more digits spell
abbrev pub spelled : ℕ → List ℕ → Option ℕ
spelled base [] = None
spelled base (c ∷ cs) = spelled_after base 0 (c ∷ cs)

-- the number that a text spells
abbrev pub number_of : List ℕ → Option ℤ
number_of text =
    if starts_with nat_eq text (codes "0x") then option_map pos (spelled 16 (drop 2 text)) else (
    if starts_with nat_eq text (codes "-") then option_map (λ n. neg_ℤ (pos n)) (spelled 10 (drop 1 text)) else (
    if starts_with nat_eq text (codes "+") then option_map pos (spelled 10 (drop 1 text)) else
    option_map pos (spelled 10 text)))

-- the number that a text spells, where it stands in this range
abbrev pub number_in : ℤ → ℤ → List ℕ → Option ℤ
number_in low high text = option_and_then (λ n. if within low high n then Some n else None) (number_of text)
