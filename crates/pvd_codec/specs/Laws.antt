-- What holds between the spellings of values and parts and their reading.
use Rattle.std.specs.Prelude.{◌≡◌, ℕ, true, List, ◌++◌, Ok}
use Rattle.std.specs.Ordering.{nat_cmp}
use Rattle.std.specs.FinSet.{FinSet, contains}
use Rattle.pva_wire.specs.declared.order.Order.{Order}
use Rattle.pvd_type.specs.Tree.{Tree}
use Rattle.pvd_type.specs.Check.{IsType}
use Rattle.pvd_value.specs.Data.{Data}
use Rattle.pvd_value.specs.Fits.{fits_of}
use Rattle.pvd_value.specs.Blank.{blank_of}
use Rattle.pvd_value.specs.Merge.{merged}
use Rattle.pvd_desc.specs.Types.{Types}
use Rattle.pvd_codec.specs.Grammar.{Full, Part}
use Rattle.pvd_codec.specs.Reading.{full_at, part_at}
use Rattle.pvd_codec.specs.Written.{canonical_value, canonical_part, CanValue, CanMarked, HoldsLeaves}

-- What spells a value at the front is read as it, whatever follows.
abbrev pub FullIsRead : Type 0
FullIsRead = (order : Order) (before : Types) (t : Tree) (front rest : List ℕ) (v : Data) (after : Types) → Full order before t front v after → full_at order t (front ++ rest, before) ≡ Ok (v, (rest, after))

-- Two values that one list of bytes begins with, under one type and after the same types, are one.
abbrev pub OneFull : Type 0
OneFull = (order : Order) (before : Types) (t : Tree) (a b r s : List ℕ) (v w : Data) (after later : Types) → Full order before t a v after → Full order before t b w later → a ++ r ≡ b ++ s
    → (v ≡ w) × (r ≡ s) × (after ≡ later)

-- What is written of a value that fits is read as it, whatever follows, and defines no type.
abbrev pub WrittenFullIsRead : Type 0
WrittenFullIsRead = (order : Order) (before : Types) (t : Tree) (v : Data) (rest : List ℕ) → fits_of 16 v t ≡ true → CanValue v t → full_at order t (canonical_value order v t ++ rest, before) ≡ Ok (v, (rest, before))

-- What spells a part at the front is read as it, whatever follows.
abbrev pub PartIsRead : Type 0
PartIsRead = (order : Order) (before : Types) (t : Tree) (front rest : List ℕ) (mask : FinSet nat_cmp) (v : Data) (after : Types) → Part order before t front mask v after
    → part_at order t (front ++ rest, before) ≡ Ok ((mask, v), (rest, after))

-- Two parts that one list of bytes begins with, under one type and after the same types, are one.
abbrev pub OnePart : Type 0
OnePart = (order : Order) (before : Types) (t : Tree) (a b r s : List ℕ) (m n : FinSet nat_cmp) (v w : Data) (after later : Types) → Part order before t a m v after → Part order before t b n w later
    → a ++ r ≡ b ++ s → (m ≡ n) × (v ≡ w) × (r ≡ s) × (after ≡ later)

-- What is written of the marked leaves of a value is read as them, whatever follows, with blank leaves elsewhere, and defines no type.
abbrev pub WrittenPartIsRead : Type 0
WrittenPartIsRead = (order : Order) (before : Types) (t : Tree) (mask : FinSet nat_cmp) (v : Data) (rest : List ℕ) → IsType t → fits_of 16 v t ≡ true → HoldsLeaves t mask → CanMarked (contains mask) 0 v t
    → part_at order t (canonical_part order mask v t ++ rest, before) ≡ Ok ((mask, merged (contains mask) 0 t (blank_of t) v), (rest, before))
