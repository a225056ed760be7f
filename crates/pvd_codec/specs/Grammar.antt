-- Which bytes spell a value of a type, and which spell a part of one (pvAccess Protocol Specification, "Data Encoding").
use Rattle.std.specs.Prelude.{◌≡◌, ◌⊎◌, ℕ, ◌+◌, ◌-◌, ◌<◌, ◌≤◌, ℤ, Bool, true, false, List, [], ◌∷◌, ◌++◌, length, Option, Some, None}
use Rattle.std.specs.Int.{Width, w8, w16, w32, w64, cast_signed}
use Rattle.std.specs.Ordering.{nat_cmp}
use Rattle.std.specs.FinSet.{FinSet, contains}
use Rattle.pva_wire.specs.declared.order.Order.{Order}
use Rattle.pva_wire.specs.Spelling.{SpellsNumber, SpellsSize, SpellsText}
use Rattle.pva_wire.specs.Bits.{SpellsBits}
use Rattle.pvd_type.specs.declared.shape.Extent.{Extent}
use Rattle.pvd_type.specs.declared.shape.Extent.TheVariants.{Variable, Bounded, Fixed}
use Rattle.pvd_type.specs.Tree.{Tree, leaf, node, plain, bound_text, list, variant, variant_list, struct, union, struct_list, union_list, Fields, no_fields, field}
use Rattle.pvd_type.specs.Numbers.{numbered}
use Rattle.pvd_value.specs.Data as value
use Rattle.pvd_value.specs.Data.{Data, Single, Many, single, many, members, unset, selected, empty, carried, structs, unions, variants, Row, end, more, gap}
use Rattle.pvd_value.specs.Fits.{scalar_of, element_of, count_of, member_at}
use Rattle.pvd_value.specs.Blank.{blank_of}
use Rattle.pvd_value.specs.Leaves.{marked_leaves}
use Rattle.pvd_desc.specs.Types.{Types}
use Rattle.pvd_desc.specs.Grammar.{Desc}

-- a boolean, or the flag before an element that may be null
abbrev pub flag : Bool → ℕ
flag false = 0
flag true = 1

abbrev pub SpellsBool : List ℕ → Bool → Type 0
SpellsBool bytes b = bytes ≡ flag b ∷ []

-- a signed number of n bytes, in two's complement
abbrev pub SpellsSigned : Order → Width → ℕ → List ℕ → ℤ → Type 0
SpellsSigned order w n bytes z = (x : ℕ) × SpellsNumber order n bytes x × (z ≡ cast_signed w x)

-- one scalar; floats are bit patterns
abbrev pub SpellsSingle : Order → List ℕ → Single → Type 0
SpellsSingle order bytes (value.boolean b) = SpellsBool bytes b
SpellsSingle order bytes (value.byte z) = SpellsSigned order w8 1 bytes z
SpellsSingle order bytes (value.short z) = SpellsSigned order w16 2 bytes z
SpellsSingle order bytes (value.int z) = SpellsSigned order w32 4 bytes z
SpellsSingle order bytes (value.long z) = SpellsSigned order w64 8 bytes z
SpellsSingle order bytes (value.ubyte x) = SpellsNumber order 1 bytes x
SpellsSingle order bytes (value.ushort x) = SpellsNumber order 2 bytes x
SpellsSingle order bytes (value.uint x) = SpellsNumber order 4 bytes x
SpellsSingle order bytes (value.ulong x) = SpellsNumber order 8 bytes x
SpellsSingle order bytes (value.float x) = SpellsNumber order 4 bytes x
SpellsSingle order bytes (value.double x) = SpellsNumber order 8 bytes x
SpellsSingle order bytes (value.text t) = SpellsText order bytes t

-- items one after another
abbrev pub SpellsItems : {A : Type 0} → (List ℕ → A → Type 0) → List ℕ → List A → Type 0
SpellsItems Spells bytes [] = bytes ≡ []
SpellsItems Spells bytes (x ∷ xs) = (head : List ℕ) × (tail : List ℕ) × Spells head x × SpellsItems Spells tail xs × (bytes ≡ head ++ tail)

-- the elements of a list of scalars
abbrev pub SpellsMany : Order → List ℕ → Many → Type 0
SpellsMany order bytes (value.booleans xs) = SpellsItems SpellsBool bytes xs
SpellsMany order bytes (value.bytes xs) = SpellsItems (SpellsSigned order w8 1) bytes xs
SpellsMany order bytes (value.shorts xs) = SpellsItems (SpellsSigned order w16 2) bytes xs
SpellsMany order bytes (value.ints xs) = SpellsItems (SpellsSigned order w32 4) bytes xs
SpellsMany order bytes (value.longs xs) = SpellsItems (SpellsSigned order w64 8) bytes xs
SpellsMany order bytes (value.ubytes xs) = SpellsItems (SpellsNumber order 1) bytes xs
SpellsMany order bytes (value.ushorts xs) = SpellsItems (SpellsNumber order 2) bytes xs
SpellsMany order bytes (value.uints xs) = SpellsItems (SpellsNumber order 4) bytes xs
SpellsMany order bytes (value.ulongs xs) = SpellsItems (SpellsNumber order 8) bytes xs
SpellsMany order bytes (value.floats xs) = SpellsItems (SpellsNumber order 4) bytes xs
SpellsMany order bytes (value.doubles xs) = SpellsItems (SpellsNumber order 8) bytes xs
SpellsMany order bytes (value.texts xs) = SpellsItems (SpellsText order) bytes xs

-- a count, and then what the relation given has
abbrev pub Counted : Order → ℕ → (List ℕ → Type 0) → List ℕ → Type 0
Counted order n Elements bytes = (head : List ℕ) × (tail : List ℕ) × SpellsSize order head (Some n) × Elements tail × (bytes ≡ head ++ tail)

-- A list of scalars: a count that its bound allows, and the elements. A list of a fixed length has no count.
abbrev pub SpellsList : Order → Extent → List ℕ → Many → Type 0
SpellsList order Variable bytes xs = Counted order (count_of xs) (λ tail. SpellsMany order tail xs) bytes
SpellsList order (Bounded bound) bytes xs = (count_of xs ≤ bound) × Counted order (count_of xs) (λ tail. SpellsMany order tail xs) bytes
SpellsList order (Fixed size) bytes xs = (count_of xs ≡ size) × SpellsMany order bytes xs

-- a text of at most so many bytes
abbrev pub SpellsBoundText : Order → ℕ → List ℕ → Single → Type 0
SpellsBoundText order bound bytes (value.text t) = (length t ≤ bound) × SpellsText order bytes t
SpellsBoundText order bound bytes _ = ⊥

abbrev pub on_some : {A : Type 0} → (A → Type 0) → Option A → Type 0
on_some P None = ⊥
on_some P (Some x) = P x

abbrev pub row_length : Row → ℕ
row_length end = 0
row_length (more v vs) = row_length vs + 1
row_length (gap vs) = row_length vs + 1

-- the flag of a null element
abbrev pub SpellsNone : Types → List ℕ → Types → Type 0
SpellsNone before bytes after = (bytes ≡ flag false ∷ []) × (after ≡ before)

-- A null element of a list. A null variant may also be a flag and the null description, where so many variants may stand inside one another.
abbrev pub SpellsGap : ℕ → Order → Tree → Types → List ℕ → Types → Type 0
SpellsGap left order (leaf variant) before bytes after =
    SpellsNone before bytes after ⊎ ((desc : List ℕ) × (0 < left) × Desc order before None desc after × (bytes ≡ flag true ∷ desc))
SpellsGap left order _ before bytes after = SpellsNone before bytes after

-- an element that isn't null: a variant brings a value
abbrev pub IsElement : Tree → Data → Type 0
IsElement (leaf variant) empty = ⊥
IsElement _ v = Unit {0}

-- The bytes spell the value, after the types that are known before, where so many variants may stand inside one another.
-- The descriptions in variants may define types, which are known after.
abbrev mutual
  pub Spells : ℕ → Order → Data → Tree → Types → List ℕ → Types → Type 0
  Spells left order (single x) (leaf (plain s)) before bytes after = (scalar_of x ≡ s) × SpellsSingle order bytes x × (after ≡ before)
  Spells left order (single x) (leaf (bound_text bound)) before bytes after = SpellsBoundText order bound bytes x × (after ≡ before)
  Spells left order (many xs) (leaf (list s e)) before bytes after = (element_of xs ≡ s) × SpellsList order e bytes xs × (after ≡ before)
  Spells left order (members vs) (node struct id fs) before bytes after = SpellsRow left order vs fs before bytes after
  Spells left order unset (node union id fs) before bytes after = SpellsSize order bytes None × (after ≡ before)
  Spells left order (selected n v) (node union id fs) before bytes after =
      (head : List ℕ) × (tail : List ℕ) × SpellsSize order head (Some n) × on_some (λ t. Spells left order v t before tail after) (member_at n fs) × (bytes ≡ head ++ tail)
  Spells left order empty (leaf variant) before bytes after = (0 < left) × Desc order before None bytes after
  Spells left order (carried t v) (leaf variant) before bytes after =
      (head : List ℕ) × (tail : List ℕ) × (mid : Types) × (0 < left) × Desc order before (Some t) head mid × Spells (left - 1) order v t mid tail after × (bytes ≡ head ++ tail)
  Spells left order (structs vs) (node struct_list id fs) before bytes after = Counted order (row_length vs) (λ tail. SpellsElements left order vs (node struct id fs) before tail after) bytes
  Spells left order (unions vs) (node union_list id fs) before bytes after = Counted order (row_length vs) (λ tail. SpellsElements left order vs (node union id fs) before tail after) bytes
  Spells left order (variants vs) (leaf variant_list) before bytes after = Counted order (row_length vs) (λ tail. SpellsElements left order vs (leaf variant) before tail after) bytes
  Spells left order _ _ before bytes after = ⊥

  -- the values of members, in order
  pub SpellsRow : ℕ → Order → Row → Fields → Types → List ℕ → Types → Type 0
  SpellsRow left order end no_fields before bytes after = (bytes ≡ []) × (after ≡ before)
  SpellsRow left order (more v vs) (field name t fs) before bytes after =
      (head : List ℕ) × (tail : List ℕ) × (mid : Types) × Spells left order v t before head mid × SpellsRow left order vs fs mid tail after × (bytes ≡ head ++ tail)
  SpellsRow left order _ _ before bytes after = ⊥

  -- elements of one type, each with a flag before it
  pub SpellsElements : ℕ → Order → Row → Tree → Types → List ℕ → Types → Type 0
  SpellsElements left order end t before bytes after = (bytes ≡ []) × (after ≡ before)
  SpellsElements left order (gap vs) t before bytes after =
      (head : List ℕ) × (tail : List ℕ) × (mid : Types) × SpellsGap left order t before head mid × SpellsElements left order vs t mid tail after × (bytes ≡ head ++ tail)
  SpellsElements left order (more v vs) t before bytes after =
      (head : List ℕ) × (tail : List ℕ) × (mid : Types) × IsElement t v × Spells left order v t before head mid × SpellsElements left order vs t mid tail after × (bytes ≡ flag true ∷ (head ++ tail))

-- The bytes are a whole value of the type. At most 16 variants stand inside one another.
abbrev pub Full : Order → Types → Tree → List ℕ → Data → Types → Type 0
Full order before t bytes v after = Spells 16 order v t before bytes after

-- what stands under a number of a part: the value where the number is marked, and else nothing, and the value is blank
abbrev pub SpellsLeaf : Bool → Order → Data → Tree → Types → List ℕ → Types → Type 0
SpellsLeaf true order v t before bytes after = Full order before t bytes v after
SpellsLeaf false order v t before bytes after = (v ≡ blank_of t) × (bytes ≡ []) × (after ≡ before)

-- The marked leaves of a value, in the order of their numbers, which are counted from n. Only structures are entered.
abbrev mutual
  pub SpellsMarked : (ℕ → Bool) → ℕ → Order → Data → Tree → Types → List ℕ → Types → Type 0
  SpellsMarked marked n order (members vs) (node struct id fs) before bytes after = SpellsMarkedRow marked (n + 1) order vs fs before bytes after
  SpellsMarked marked n order v (node struct id fs) before bytes after = ⊥
  SpellsMarked marked n order v t before bytes after = SpellsLeaf (marked n) order v t before bytes after

  pub SpellsMarkedRow : (ℕ → Bool) → ℕ → Order → Row → Fields → Types → List ℕ → Types → Type 0
  SpellsMarkedRow marked n order end no_fields before bytes after = (bytes ≡ []) × (after ≡ before)
  SpellsMarkedRow marked n order (more v vs) (field name t fs) before bytes after =
      (head : List ℕ) × (tail : List ℕ) × (mid : Types) × SpellsMarked marked n order v t before head mid × SpellsMarkedRow marked (n + length (numbered t)) order vs fs mid tail after
      × (bytes ≡ head ++ tail)
  SpellsMarkedRow marked n order _ _ before bytes after = ⊥

-- no bit is at or above the count of the type's nodes
abbrev pub AllInside : Tree → FinSet nat_cmp → Type 0
AllInside t bits = (q : ℕ) → length (numbered t) ≤ q → contains bits q ≡ false

-- The bytes are a part of a value: a set of bits, in which a structure's bit stands for all its leaves, and the marked leaves. The mask has leaves alone, and the leaves outside it are blank.
abbrev pub Part : Order → Types → Tree → List ℕ → FinSet nat_cmp → Data → Types → Type 0
Part order before t bytes mask v after =
    (head : List ℕ) × (tail : List ℕ) × (bits : FinSet nat_cmp) × SpellsBits order head bits × AllInside t bits × (mask ≡ marked_leaves t bits)
    × SpellsMarked (contains mask) 0 order v t before tail after × (bytes ≡ head ++ tail)
