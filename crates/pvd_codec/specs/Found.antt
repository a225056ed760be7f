-- What is read is spelled at the front of the bytes.
use Rattle.std.specs.Prelude.{◌≡◌, ℕ, List, ◌++◌, Ok, true}
use Rattle.std.specs.Ordering.{nat_cmp}
use Rattle.std.specs.FinSet.{FinSet}
use Rattle.pva_wire.specs.declared.order.Order.{Order}
use Rattle.pva_wire.specs.Spelling.{IsBytes}
use Rattle.pvd_type.specs.Tree.{Tree}
use Rattle.pvd_value.specs.Data.{Data}
use Rattle.pvd_value.specs.Fits.{fits_of}
use Rattle.pvd_desc.specs.Types.{Types}
use Rattle.pvd_codec.specs.Grammar.{Full, Part}
use Rattle.pvd_codec.specs.Reading.{full_at, part_at}

-- A whole value that was read is spelled at the front.
abbrev pub ReadIsFull : Type 0
ReadIsFull = (order : Order) (before : Types) (t : Tree) (bytes : List ℕ) (v : Data) (rest : List ℕ) (after : Types) → IsBytes bytes → full_at order t (bytes, before) ≡ Ok (v, (rest, after))
    → (front : List ℕ) × Full order before t front v after × (bytes ≡ front ++ rest)

-- A part that was read is spelled at the front.
abbrev pub ReadIsPart : Type 0
ReadIsPart = (order : Order) (before : Types) (t : Tree) (bytes : List ℕ) (mask : FinSet nat_cmp) (v : Data) (rest : List ℕ) (after : Types) → IsBytes bytes → part_at order t (bytes, before) ≡ Ok ((mask, v), (rest, after))
    → (front : List ℕ) × Part order before t front mask v after × (bytes ≡ front ++ rest)

-- What spells a whole value of a type spells one that fits it.
abbrev pub FullFits : Type 0
FullFits = (order : Order) (before : Types) (t : Tree) (bytes : List ℕ) (v : Data) (after : Types) → Full order before t bytes v after → fits_of 16 v t ≡ true

-- What spells a part of a type spells a value that fits it.
abbrev pub PartFits : Type 0
PartFits = (order : Order) (before : Types) (t : Tree) (bytes : List ℕ) (mask : FinSet nat_cmp) (v : Data) (after : Types) → Part order before t bytes mask v after → fits_of 16 v t ≡ true
