-- Bit sets as bytes.
use Rattle.std.specs.Prelude.{◌≡◌, ℕ, zero, suc, ◌+◌, ◌-◌, ◌*◌, ◌/◌, ◌%◌, ◌^◌, ◌≤◌, Bool, false, ◌==◌, not, nat_lt, List, ◌++◌, length, get_or, take, drop, map, Option, Some, None, Ok, Err, if◌then◌else◌}
use Rattle.std.specs.List.{list_any, range_with_len}
use Rattle.std.specs.Ordering.{nat_cmp}
use Rattle.std.specs.FinSet.{FinSet, contains}
use Rattle.pva_wire.specs.declared.order.Order.{Order}
use Rattle.pva_wire.specs.declared.order.Order.TheVariants.{Little, Big}
use Rattle.pva_wire.specs.declared.fault.Cause.TheVariants.{Short, Range, NullSize}
use Rattle.pva_wire.specs.Spelling.{SpellsSize, canonical_size, IsBytes}
use Rattle.pva_wire.specs.Reading.{Read, ◌>>=◌, size_at}
use Rattle.pvd_type.specs.Sets.{bit, set_of}

-- Which of n bytes holds the bits 8 p to 8 p + 7. A complete group of eight bytes is one 64-bit word in the order; the bytes after the groups stand lowest first.
abbrev pub place : Order → ℕ → ℕ → ℕ
place Little n p = p
place Big n p = if nat_lt p (n / 8 * 8) then p / 8 * 8 + (7 - p % 8) else p

-- whether the bytes hold q
abbrev pub byte_bit : Order → List ℕ → ℕ → Bool
byte_bit order body q = bit (get_or body (place order (length body) (q / 8)) 0) (q % 8)

-- the set's numbers are below 65,536
abbrev pub AllLow : FinSet nat_cmp → Type 0
AllLow s = (q : ℕ) → 65536 ≤ q → contains s q ≡ false

-- A size, and so many bytes, which hold the set's numbers and no other. The numbers are below 65,536.
abbrev pub SpellsBits : Order → List ℕ → FinSet nat_cmp → Type 0
SpellsBits order bytes s =
    (head : List ℕ) × (body : List ℕ) × SpellsSize order head (Some (length body)) × IsBytes body
    × ((q : ℕ) → contains s q ≡ byte_bit order body q) × AllLow s × (bytes ≡ head ++ body)

-- the bits 8 p to 8 p + k - 1 as a number
abbrev pub low_bits : FinSet nat_cmp → ℕ → ℕ → ℕ
low_bits s p zero = 0
low_bits s p (suc k) = if contains s (8 * p + k) then 1 * 2 ^ k + low_bits s p k else low_bits s p k

unfoldable pub byte_of : FinSet nat_cmp → ℕ → ℕ
byte_of s p = low_bits s p 8

-- how many of the first n bytes cover the greatest bit in them
unfoldable pub covering : FinSet nat_cmp → ℕ → ℕ
covering s zero = 0
covering s (suc n) = if byte_of s n == 0 then covering s n else suc n

unfoldable pub width : FinSet nat_cmp → ℕ
width s = covering s 8192

-- the one spelling that is written
abbrev pub canonical_bits : Order → FinSet nat_cmp → List ℕ
canonical_bits order s = canonical_size order (width s) ++ map (λ j. byte_of s (place order (width s) j)) (range_with_len 0 (width s))

-- whether the bytes hold a number that is too great: the groups do not cross here
unfoldable pub is_high : List ℕ → Bool
is_high body = list_any (λ b. not (b == 0)) (drop 8192 body)

abbrev pub bits_of : Order → List ℕ → FinSet nat_cmp
bits_of order body = set_of (byte_bit order body) (8 * length body)

abbrev pub bits_of_size : Order → ℕ → Option ℕ → List ℕ → Read (FinSet nat_cmp)
bits_of_size order left None rest = Err (NullSize, left)
bits_of_size order left (Some n) rest =
    if nat_lt (length rest) n then Err (Short, left)
    else if is_high (take n rest) then Err (Range, left)
    else Ok (bits_of order (take n rest), drop n rest)

unfoldable pub bits_at : Order → List ℕ → Read (FinSet nat_cmp)
bits_at order bytes = do
  size ← size_at order bytes
  bits_of_size order (length bytes) size.0 size.1
