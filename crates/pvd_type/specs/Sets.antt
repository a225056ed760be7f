-- Sets of bits as words.
use Rattle.std.specs.Prelude.{ℕ, zero, suc, ◌*◌, ◌/◌, ◌%◌, ◌^◌, Bool, ◌==◌, true, false, ◌≡◌, ◌<◌, ◌≤◌, Option, Some, None, List, [], ◌∷◌, length, get_or}
use Rattle.std.specs.List.{filter}
use Rattle.std.specs.Ordering.{nat_cmp}
use Rattle.std.specs.FinSet.{FinSet, contains, from_list}

-- the bit of place k
abbrev pub bit : ℕ → ℕ → Bool
bit n k = (n / 2 ^ k) % 2 == 1

-- the numbers below n, from the last
abbrev pub downward : ℕ → List ℕ
downward zero = []
downward (suc n) = n ∷ downward n

-- the numbers below n that pass
abbrev pub set_of : (ℕ → Bool) → ℕ → FinSet nat_cmp
set_of passes n = from_list (filter passes (downward n))

abbrev pub word_bit : List ℕ → ℕ → Bool
word_bit words q = bit (get_or words (q / 64) 0) (q % 64)

-- the set whose bits these words of 64 bits hold, lowest first
abbrev pub held : List ℕ → FinSet nat_cmp
held words = set_of (word_bit words) (64 * length words)

-- the least number of a set from a start on, or that there is none
abbrev pub IsFirstFrom : FinSet nat_cmp → ℕ → Option ℕ → Type 0
IsFirstFrom s start None = (q : ℕ) → start ≤ q → contains s q ≡ false
IsFirstFrom s start (Some n) = (start ≤ n) × (contains s n ≡ true) × ((q : ℕ) → start ≤ q → q < n → contains s q ≡ false)
