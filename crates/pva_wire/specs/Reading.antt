-- Reading from left to right, with the first fault that is met and how many bytes are left from its item on.
use Rattle.std.specs.Prelude.{◌≡◌, ℕ, suc, ◌-◌, ◌*◌, ◌^◌, List, [], ◌∷◌, length, take, drop, Option, Some, None, Result, Ok, Err, IsOk, nat_lt, ◌==◌, if◌then◌else◌}
use Rattle.std.specs.Str.{is_utf8}
use Rattle.byteorder.specs.Endian.{little_number, big_number}
use Rattle.pva_wire.specs.declared.order.Order.{Order}
use Rattle.pva_wire.specs.declared.order.Order.TheVariants.{Little, Big}
use Rattle.pva_wire.specs.declared.fault.Cause.{Cause}
use Rattle.pva_wire.specs.declared.fault.Cause.TheVariants.{Short, Range, NotUtf8, NullSize}
use Rattle.pva_wire.specs.declared.fault.Stop.{Stop}
use Rattle.pva_wire.specs.declared.fault.Stop.TheVariants as stops

-- a value and the bytes after it
abbrev pub Read : Type 0 → Type 0
Read A = Result (A × List ℕ) (Cause × ℕ)

infixl 10 ◌>>=◌
abbrev pub ◌>>=◌ : {A B E : Type 0} → Result A E → (A → Result B E) → Result B E
(Ok x) >>= f = f x
(Err e) >>= f = Err e

-- What a function returned, seen by view, is what reading gives, unless memory ran out.
abbrev pub Fails : {Y : Type 0} → Stop → Result Y (Cause × ℕ) → Type 0
Fails stops.Memory read = Unit {0}
Fails (stops.Fault cause left) read = read ≡ Err (cause, left)

abbrev pub Gives : {X Y : Type 0} → (X → Y) → Result X Stop → Result Y (Cause × ℕ) → Type 0
Gives view (Ok x) read = read ≡ Ok (view x)
Gives view (Err e) read = Fails e read

-- a call that takes no memory never wants it
abbrev pub TakesNone : {X : Type 0} → Result X Stop → Type 0
TakesNone (Err stops.Memory) = ⊥
TakesNone _ = Unit {0}

-- Memory is taken only for what is there: it is wanting only where reading gives something.
abbrev pub TakesLast : {X Y : Type 0} → Result X Stop → Result Y (Cause × ℕ) → Type 0
TakesLast (Err stops.Memory) read = IsOk read
TakesLast _ read = Unit {0}

-- the number in the first n bytes
abbrev pub number_of : Order → ℕ → List ℕ → ℕ
number_of Little n bytes = little_number n bytes
number_of Big n bytes = big_number n bytes

-- a number of n bytes
unfoldable pub number_at : Order → ℕ → List ℕ → Read ℕ
number_at order n bytes = if nat_lt (length bytes) n then Err (Short, length bytes) else Ok (number_of order n bytes, drop n bytes)

-- the four bytes of a long size, whose first byte had so many bytes from it on
unfoldable pub long_size_at : Order → ℕ → List ℕ → Read (Option ℕ)
long_size_at order left bytes =
    if nat_lt (length bytes) 4 then Err (Short, left)
    else if nat_lt (2 ^ 31 - 2) (number_of order 4 bytes) then Err (Range, left)
    else Ok (Some (number_of order 4 bytes), drop 4 bytes)

-- a size, or null
unfoldable pub size_at : Order → List ℕ → Read (Option ℕ)
size_at order [] = Err (Short, 0)
size_at order (b ∷ bytes) =
    if b == 255 then Ok (None, bytes)
    else if b == 254 then long_size_at order (suc (length bytes)) bytes
    else Ok (Some b, bytes)

abbrev pub count_of_size : ℕ → Option ℕ → List ℕ → Read ℕ
count_of_size left None bytes = Err (NullSize, left)
count_of_size left (Some n) bytes = Ok (n, bytes)

-- a size that isn't null
unfoldable pub count_at : Order → List ℕ → Read ℕ
count_at order bytes = do
  size ← size_at order bytes
  count_of_size (length bytes) size.0 size.1

-- a count of items that take at least so many bytes each, which the bytes after it can hold
unfoldable pub counted_at : Order → ℕ → List ℕ → Read ℕ
counted_at order width bytes = do
  count ← count_at order bytes
  if nat_lt (length count.1) (count.0 * width) then Err (Short, length bytes) else Ok (count.0, count.1)

-- n bytes of text
unfoldable pub letters_at : ℕ → List ℕ → Read (List ℕ)
letters_at n bytes =
    if nat_lt (length bytes) n then Err (Short, length bytes)
    else if is_utf8 (take n bytes) then Ok (take n bytes, drop n bytes)
    else Err (NotUtf8, length bytes)

abbrev pub text_of_size : Option ℕ → List ℕ → Read (List ℕ)
text_of_size None bytes = Ok ([], bytes)
text_of_size (Some n) bytes = letters_at n bytes

unfoldable pub text_at : Order → List ℕ → Read (List ℕ)
text_at order bytes = do
  size ← size_at order bytes
  text_of_size size.0 size.1
