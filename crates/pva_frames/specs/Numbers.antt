-- Numbers of four bytes in either order.
use Rattle.std.specs.Prelude.{ℕ, List}
use Rattle.pva_wire.specs.declared.order.Order.{Order}
use Rattle.pva_wire.specs.Reading as reading
use Rattle.pva_wire.specs.Spelling as spelling

-- the number in the first four bytes
abbrev pub number_of : Order → List ℕ → ℕ
number_of order bytes = reading.number_of order 4 bytes

-- the four bytes of a number
abbrev pub number_bytes : Order → ℕ → List ℕ
number_bytes order x = spelling.number_bytes order 4 x
