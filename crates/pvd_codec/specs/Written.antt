-- The one spelling of a value that is written (pvAccess Protocol Specification, "Data Encoding").
use Rattle.std.specs.Prelude.{◌≡◌, ℕ, ◌+◌, Bool, length, ◌<◌, ◌^◌, FitsSigned, true, false, List, [], ◌∷◌, ◌++◌, Option, Some, None}
use Rattle.std.specs.List.{flat_map}
use Rattle.std.specs.Int.{w8, w16, w32, w64, cast_unsigned}
use Rattle.std.specs.Ordering.{nat_cmp}
use Rattle.std.specs.FinSet.{FinSet, contains}
use Rattle.pva_wire.specs.declared.order.Order.{Order}
use Rattle.pva_wire.specs.Spelling.{IsSize, IsText, number_bytes, canonical_size, canonical_text}
use Rattle.pva_wire.specs.Bits.{canonical_bits}
use Rattle.pvd_type.specs.declared.shape.Extent.{Extent}
use Rattle.pvd_type.specs.declared.shape.Extent.TheVariants.{Variable, Bounded, Fixed}
use Rattle.pvd_type.specs.Tree.{Tree, leaf, node, plain, bound_text, list, variant, variant_list, struct, union, struct_list, union_list, Fields, field}
use Rattle.pvd_type.specs.Check.{IsType}
use Rattle.pvd_type.specs.Numbers.{numbered, leaves}
use Rattle.pvd_value.specs.Data.{Data, Single, boolean, byte, short, int, long, ubyte, ushort, uint, ulong, float, double, text, Many, booleans, bytes, shorts, ints, longs, ubytes, ushorts, uints, ulongs, floats, doubles, texts, single, many, members, unset, selected, empty, carried, structs, unions, variants, Row, end, more, gap}
use Rattle.pvd_value.specs.Fits.{count_of, member_at, fits_of}
use Rattle.pvd_desc.specs.Grammar.{CanDesc, canonical_desc}
use Rattle.pvd_value.specs.Blank.{blank_of}
use Rattle.pvd_value.specs.Merge.{merged}
use Rattle.pvd_desc.specs.Types.{Types}
use Rattle.pvd_codec.specs.Grammar.{flag, row_length, IsElement, Full, Part}

-- one list begins another
pub record Begins (old new : List ℕ) : Type 0 where
  pub after : List ℕ
  pub parts : new ≡ old ++ after

-- "Numeric Values" and "Strings": the bytes of a number in the order, a text after its size; signed numbers in two's complement
abbrev pub canonical_single : Order → Single → List ℕ
canonical_single order (boolean b) = flag b ∷ []
canonical_single order (byte z) = cast_unsigned w8 z ∷ []
canonical_single order (short z) = number_bytes order 2 (cast_unsigned w16 z)
canonical_single order (int z) = number_bytes order 4 (cast_unsigned w32 z)
canonical_single order (long z) = number_bytes order 8 (cast_unsigned w64 z)
canonical_single order (ubyte n) = n ∷ []
canonical_single order (ushort n) = number_bytes order 2 n
canonical_single order (uint n) = number_bytes order 4 n
canonical_single order (ulong n) = number_bytes order 8 n
canonical_single order (float n) = number_bytes order 4 n
canonical_single order (double n) = number_bytes order 8 n
canonical_single order (text t) = canonical_text order t

-- the elements of a list, one after another
abbrev pub canonical_items : Order → Many → List ℕ
canonical_items order (booleans xs) = flat_map (λ x. canonical_single order (boolean x)) xs
canonical_items order (bytes xs) = flat_map (λ x. canonical_single order (byte x)) xs
canonical_items order (shorts xs) = flat_map (λ x. canonical_single order (short x)) xs
canonical_items order (ints xs) = flat_map (λ x. canonical_single order (int x)) xs
canonical_items order (longs xs) = flat_map (λ x. canonical_single order (long x)) xs
canonical_items order (ubytes xs) = flat_map (λ x. canonical_single order (ubyte x)) xs
canonical_items order (ushorts xs) = flat_map (λ x. canonical_single order (ushort x)) xs
canonical_items order (uints xs) = flat_map (λ x. canonical_single order (uint x)) xs
canonical_items order (ulongs xs) = flat_map (λ x. canonical_single order (ulong x)) xs
canonical_items order (floats xs) = flat_map (λ x. canonical_single order (float x)) xs
canonical_items order (doubles xs) = flat_map (λ x. canonical_single order (double x)) xs
canonical_items order (texts xs) = flat_map (λ x. canonical_single order (text x)) xs

-- "Arrays": a fixed list has no size before its elements
abbrev pub canonical_count : Order → Extent → ℕ → List ℕ
canonical_count order Variable n = canonical_size order n
canonical_count order (Bounded bound) n = canonical_size order n
canonical_count order (Fixed size) n = []

abbrev pub canonical_list : Order → Extent → Many → List ℕ
canonical_list order extent xs = canonical_count order extent (count_of xs) ++ canonical_items order xs

-- a member's place, and its value
abbrev pub canonical_selected : Order → ℕ → (Tree → List ℕ) → Option Tree → List ℕ
canonical_selected order n value None = []
canonical_selected order n value (Some t) = canonical_size order n ++ value t

-- A value of a type. "Structures": the members in order. "Unions": a member's place or null, and its value. "Variant Unions": the description of a type or null, and a
-- value of it. In a list each element has 1 before it, or is 0 where it is null.
abbrev mutual
  pub canonical_value : Order → Data → Tree → List ℕ
  canonical_value order (single x) (leaf (plain s)) = canonical_single order x
  canonical_value order (single x) (leaf (bound_text bound)) = canonical_single order x
  canonical_value order (many xs) (leaf (list s extent)) = canonical_list order extent xs
  canonical_value order (members vs) (node struct id fs) = canonical_row order vs fs
  canonical_value order unset (node union id fs) = 255 ∷ []
  canonical_value order (selected n v) (node union id fs) = canonical_selected order n (canonical_value order v) (member_at n fs)
  canonical_value order empty (leaf variant) = canonical_desc order None
  canonical_value order (carried t v) (leaf variant) = canonical_desc order (Some t) ++ canonical_value order v t
  canonical_value order (structs vs) (node struct_list id fs) = canonical_size order (row_length vs) ++ canonical_elements order vs (node struct id fs)
  canonical_value order (unions vs) (node union_list id fs) = canonical_size order (row_length vs) ++ canonical_elements order vs (node union id fs)
  canonical_value order (variants vs) (leaf variant_list) = canonical_size order (row_length vs) ++ canonical_elements order vs (leaf variant)
  canonical_value order _ _ = []

  pub canonical_row : Order → Row → Fields → List ℕ
  canonical_row order (more v vs) (field name t fs) = canonical_value order v t ++ canonical_row order vs fs
  canonical_row order _ _ = []

  pub canonical_elements : Order → Row → Tree → List ℕ
  canonical_elements order end t = []
  canonical_elements order (gap vs) t = flag false ∷ canonical_elements order vs t
  canonical_elements order (more v vs) t = flag true ∷ (canonical_value order v t ++ canonical_elements order vs t)

-- a scalar whose number is in its range, or whose text has a spelling
abbrev pub CanSingle : Single → Type 0
CanSingle (boolean b) = Unit {0}
CanSingle (byte z) = FitsSigned w8 z
CanSingle (short z) = FitsSigned w16 z
CanSingle (int z) = FitsSigned w32 z
CanSingle (long z) = FitsSigned w64 z
CanSingle (ubyte n) = n < 2 ^ 8
CanSingle (ushort n) = n < 2 ^ 16
CanSingle (uint n) = n < 2 ^ 32
CanSingle (ulong n) = n < 2 ^ 64
CanSingle (float n) = n < 2 ^ 32
CanSingle (double n) = n < 2 ^ 64
CanSingle (text t) = IsText t

abbrev pub CanEach : {A : Type 0} → (A → Type 0) → List A → Type 0
CanEach Can [] = Unit {0}
CanEach Can (x ∷ xs) = Can x × CanEach Can xs

abbrev pub CanItems : Many → Type 0
CanItems (booleans xs) = CanEach (λ x. CanSingle (boolean x)) xs
CanItems (bytes xs) = CanEach (λ x. CanSingle (byte x)) xs
CanItems (shorts xs) = CanEach (λ x. CanSingle (short x)) xs
CanItems (ints xs) = CanEach (λ x. CanSingle (int x)) xs
CanItems (longs xs) = CanEach (λ x. CanSingle (long x)) xs
CanItems (ubytes xs) = CanEach (λ x. CanSingle (ubyte x)) xs
CanItems (ushorts xs) = CanEach (λ x. CanSingle (ushort x)) xs
CanItems (uints xs) = CanEach (λ x. CanSingle (uint x)) xs
CanItems (ulongs xs) = CanEach (λ x. CanSingle (ulong x)) xs
CanItems (floats xs) = CanEach (λ x. CanSingle (float x)) xs
CanItems (doubles xs) = CanEach (λ x. CanSingle (double x)) xs
CanItems (texts xs) = CanEach (λ x. CanSingle (text x)) xs

-- the count of a list has a spelling, where it is written
abbrev pub CanCount : Extent → ℕ → Type 0
CanCount Variable n = IsSize n
CanCount (Bounded bound) n = IsSize n
CanCount (Fixed size) n = Unit {0}

abbrev pub CanList : Extent → Many → Type 0
CanList extent xs = CanCount extent (count_of xs) × CanItems xs

abbrev pub CanSelected : ℕ → (Tree → Type 0) → Option Tree → Type 0
CanSelected n Value None = Unit {0}
CanSelected n Value (Some t) = IsSize n × Value t

-- The numbers, sizes, texts and types of a value have spellings.
abbrev mutual
  pub CanValue : Data → Tree → Type 0
  CanValue (single x) (leaf (plain s)) = CanSingle x
  CanValue (single x) (leaf (bound_text bound)) = CanSingle x
  CanValue (many xs) (leaf (list s extent)) = CanList extent xs
  CanValue (members vs) (node struct id fs) = CanRow vs fs
  CanValue (selected n v) (node union id fs) = CanSelected n (CanValue v) (member_at n fs)
  CanValue (carried t v) (leaf variant) = CanDesc (Some t) × CanValue v t
  CanValue (structs vs) (node struct_list id fs) = IsSize (row_length vs) × CanElements vs (node struct id fs)
  CanValue (unions vs) (node union_list id fs) = IsSize (row_length vs) × CanElements vs (node union id fs)
  CanValue (variants vs) (leaf variant_list) = IsSize (row_length vs) × CanElements vs (leaf variant)
  CanValue _ _ = Unit {0}

  pub CanRow : Row → Fields → Type 0
  CanRow (more v vs) (field name t fs) = CanValue v t × CanRow vs fs
  CanRow _ _ = Unit {0}

  pub CanElements : Row → Tree → Type 0
  CanElements end t = Unit {0}
  CanElements (gap vs) t = CanElements vs t
  CanElements (more v vs) t = IsElement t v × CanValue v t × CanElements vs t

-- a leaf, where it is marked
abbrev pub canonical_leaf : Order → Bool → Data → Tree → List ℕ
canonical_leaf order true v t = canonical_value order v t
canonical_leaf order false v t = []

-- The marked leaves of a value, in the order of their numbers, which are counted from n. Only structures are entered.
abbrev mutual
  pub canonical_marked : Order → (ℕ → Bool) → ℕ → Data → Tree → List ℕ
  canonical_marked order marked n (members vs) (node struct id fs) = canonical_marked_row order marked (n + 1) vs fs
  canonical_marked order marked n v (node struct id fs) = []
  canonical_marked order marked n v t = canonical_leaf order (marked n) v t

  pub canonical_marked_row : Order → (ℕ → Bool) → ℕ → Row → Fields → List ℕ
  canonical_marked_row order marked n (more v vs) (field name t fs) = canonical_marked order marked n v t ++ canonical_marked_row order marked (n + length (numbered t)) vs fs
  canonical_marked_row order marked n _ _ = []

-- A part of a value, "BitSets": the set of the marked leaves, and their values.
abbrev pub canonical_part : Order → FinSet nat_cmp → Data → Tree → List ℕ
canonical_part order mask v t = canonical_bits order mask ++ canonical_marked order (contains mask) 0 v t

-- the numbers, sizes, texts and types of the marked leaves have spellings
abbrev pub CanLeaf : Bool → Data → Tree → Type 0
CanLeaf true v t = CanValue v t
CanLeaf false v t = Unit {0}

abbrev mutual
  pub CanMarked : (ℕ → Bool) → ℕ → Data → Tree → Type 0
  CanMarked marked n (members vs) (node struct id fs) = CanMarkedRow marked (n + 1) vs fs
  CanMarked marked n v (node struct id fs) = Unit {0}
  CanMarked marked n v t = CanLeaf (marked n) v t

  pub CanMarkedRow : (ℕ → Bool) → ℕ → Row → Fields → Type 0
  CanMarkedRow marked n (more v vs) (field name t fs) = CanMarked marked n v t × CanMarkedRow marked (n + length (numbered t)) vs fs
  CanMarkedRow marked n _ _ = Unit {0}

-- a set of leaf numbers of a type, and no other
abbrev pub HoldsLeaves : Tree → FinSet nat_cmp → Type 0
HoldsLeaves t mask = (n : ℕ) → contains mask n ≡ true → contains (leaves t) n ≡ true

-- The law: what is written of a value that fits spells the value, and defines no type.
abbrev pub WrittenIsFull : Type 0
WrittenIsFull = (order : Order) (before : Types) (t : Tree) (v : Data) → fits_of 16 v t ≡ true → CanValue v t → Full order before t (canonical_value order v t) v before

-- The law for parts: what is written of a value spells its marked leaves, and blank ones elsewhere.
abbrev pub WrittenIsPart : Type 0
WrittenIsPart = (order : Order) (before : Types) (t : Tree) (mask : FinSet nat_cmp) (v : Data) → IsType t → fits_of 16 v t ≡ true → HoldsLeaves t mask → CanMarked (contains mask) 0 v t
    → Part order before t (canonical_part order mask v t) mask (merged (contains mask) 0 t (blank_of t) v) before
