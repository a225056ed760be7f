-- Reading a value from left to right, with the first fault that is met and how many bytes are left from its item on
-- (pvAccess Protocol Specification, "Data Encoding").
use Rattle.std.specs.Prelude.{◌≡◌, ℕ, zero, suc, ◌+◌, ◌-◌, ◌*◌, Bool as Truth, true, false, List, [], ◌∷◌, length, take, Option, Some, None, Result, Ok, Err, nat_lt, ◌==◌, if◌then◌else◌}
use Rattle.std.specs.Int.{w8, w16, w32, w64, cast_signed}
use Rattle.std.specs.Ordering.{nat_cmp}
use Rattle.std.specs.FinSet.{FinSet, contains}
use Rattle.pva_wire.specs.declared.order.Order.{Order}
use Rattle.pva_wire.specs.declared.fault.Cause as wire
use Rattle.pva_wire.specs.declared.fault.Cause.TheVariants.{Short}
use Rattle.pva_wire.specs.declared.fault.Stop as wire_stop
use Rattle.pva_wire.specs.declared.fault.Stop.TheVariants as wire_stops
use Rattle.pva_wire.specs.Reading.{◌>>=◌, number_at, size_at, count_at, counted_at, text_at}
use Rattle.pva_wire.specs.Bits.{byte_bit, bits_at}
use Rattle.pvd_type.specs.declared.shape.Scalar.{Scalar}
use Rattle.pvd_type.specs.declared.shape.Scalar.TheVariants.{Bool, I8, I16, I32, I64, U8, U16, U32, U64, F32, F64, Text}
use Rattle.pvd_type.specs.declared.shape.Extent.{Extent}
use Rattle.pvd_type.specs.declared.shape.Extent.TheVariants.{Variable, Bounded, Fixed}
use Rattle.pvd_type.specs.Tree.{Tree, leaf, node, Leaf, plain, bound_text, list, variant, variant_list, struct, union, struct_list, union_list, Fields, no_fields, field}
use Rattle.pvd_type.specs.Numbers.{numbered}
use Rattle.pvd_value.specs.Data as value
use Rattle.pvd_value.specs.Data.{Data, single, many, members, unset, selected, empty, carried, structs, unions, variants, Row, end, more}
use Rattle.pvd_value.specs.View.{gaps_of, parcels_of, view}
use Rattle.pvd_value.specs.declared.value.PvValue.{PvValue}
use Rattle.pvd_value.specs.Blank.{blank_of}
use Rattle.pvd_value.specs.Leaves.{marked_leaves}
use Rattle.pvd_desc.specs.declared.fault.DescCause as desc
use Rattle.pvd_desc.specs.declared.fault.DescStop as desc_stop
use Rattle.pvd_desc.specs.declared.fault.DescStop.TheVariants as desc_stops
use Rattle.pvd_desc.specs.Types.{Types}
use Rattle.pvd_desc.specs.Reading.{desc_at}
use Rattle.pvd_codec.specs.declared.fault.ValueCause.{ValueCause}
use Rattle.pvd_codec.specs.declared.fault.ValueCause.TheVariants.{Wire, Desc, BadSelector, BitOutside, BadBool, OverBound, TooNested}
use Rattle.pvd_codec.specs.declared.reading.Element.{Element}
use Rattle.pvd_codec.specs.declared.reading.Element.TheVariants as elements
use Rattle.pvd_codec.specs.declared.fault.ValueStop.{ValueStop}
use Rattle.pvd_codec.specs.declared.fault.ValueStop.TheVariants as stops

-- something and what is left to read
abbrev pub Read : Type 0 → Type 0 → Type 0
Read S A = Result (A × S) (ValueCause × ℕ)

-- the bytes that are left, and the types that are known
abbrev pub State : Type 0
State = List ℕ × Types

-- a reading of the layers below
abbrev pub lifted : {A : Type 0} → Result A (wire.Cause × ℕ) → Result A (ValueCause × ℕ)
lifted (Ok x) = Ok x
lifted (Err e) = Err (Wire e.0, e.1)

abbrev pub described : {A : Type 0} → Result A (desc.DescCause × ℕ) → Result A (ValueCause × ℕ)
described (Ok x) = Ok x
described (Err e) = Err (Desc e.0, e.1)

abbrev pub lifted_stop : wire_stop.Stop → ValueStop
lifted_stop wire_stops.Memory = stops.Memory
lifted_stop (wire_stops.Fault cause left) = stops.Fault (Wire cause) left

abbrev pub described_stop : desc_stop.DescStop → ValueStop
described_stop desc_stops.Memory = stops.Memory
described_stop (desc_stops.Fault cause left) = stops.Fault (Desc cause) left

-- What a function returned, seen by view, is what reading gives, unless memory ran out.
abbrev pub Fails : {Y : Type 0} → ValueStop → Result Y (ValueCause × ℕ) → Type 0
Fails stops.Memory read = Unit {0}
Fails (stops.Fault cause left) read = read ≡ Err (cause, left)

abbrev pub Gives : {X Y : Type 0} → (X → Y) → Result X ValueStop → Result Y (ValueCause × ℕ) → Type 0
Gives view (Ok x) read = read ≡ Ok (view x)
Gives view (Err e) read = Fails e read

-- a reading that defines no types
abbrev pub steady : {A : Type 0} → Types → Read (List ℕ) A → Read State A
steady types read = read >>= λ x. Ok (x.0, (x.1, types))

-- a boolean, or a flag
unfoldable pub bool_at : List ℕ → Read (List ℕ) Truth
bool_at [] = Err (Wire Short, 0)
bool_at (b ∷ rest) = if b == 0 then Ok (false, rest) else if b == 1 then Ok (true, rest) else Err (BadBool b, suc (length rest))

-- what the number in the first n bytes stands for
unfoldable pub valued : {X : Type 0} → (ℕ → X) → Order → ℕ → List ℕ → Read (List ℕ) X
valued meaning order n bytes = lifted (number_at order n bytes) >>= λ x. Ok (meaning x.0, x.1)

unfoldable pub scalar_at : Order → Scalar → List ℕ → Read (List ℕ) Data
scalar_at order Bool bytes = bool_at bytes >>= λ x. Ok (single (value.boolean x.0), x.1)
scalar_at order I8 bytes = valued (cast_signed w8) order 1 bytes >>= λ x. Ok (single (value.byte x.0), x.1)
scalar_at order I16 bytes = valued (cast_signed w16) order 2 bytes >>= λ x. Ok (single (value.short x.0), x.1)
scalar_at order I32 bytes = valued (cast_signed w32) order 4 bytes >>= λ x. Ok (single (value.int x.0), x.1)
scalar_at order I64 bytes = valued (cast_signed w64) order 8 bytes >>= λ x. Ok (single (value.long x.0), x.1)
scalar_at order U8 bytes = valued (λ n. n) order 1 bytes >>= λ x. Ok (single (value.ubyte x.0), x.1)
scalar_at order U16 bytes = valued (λ n. n) order 2 bytes >>= λ x. Ok (single (value.ushort x.0), x.1)
scalar_at order U32 bytes = valued (λ n. n) order 4 bytes >>= λ x. Ok (single (value.uint x.0), x.1)
scalar_at order U64 bytes = valued (λ n. n) order 8 bytes >>= λ x. Ok (single (value.ulong x.0), x.1)
scalar_at order F32 bytes = valued (λ n. n) order 4 bytes >>= λ x. Ok (single (value.float x.0), x.1)
scalar_at order F64 bytes = valued (λ n. n) order 8 bytes >>= λ x. Ok (single (value.double x.0), x.1)
scalar_at order Text bytes = lifted (text_at order bytes) >>= λ x. Ok (single (value.text x.0), x.1)

-- A size above the bound is a fault before what follows it.
abbrev pub judged : {A : Type 0} → ℕ → Option ℕ → ℕ → Result A (ValueCause × ℕ) → Result A (ValueCause × ℕ)
judged bound None left read = read
judged bound (Some n) left read = if nat_lt bound n then Err (OverBound n, left) else read

-- a text of at most so many bytes
unfoldable pub bound_text_at : Order → ℕ → List ℕ → Read (List ℕ) Data
bound_text_at order bound bytes =
    lifted (size_at order bytes) >>= λ n. judged bound n.0 (length bytes) (lifted (text_at order bytes)) >>= λ t. Ok (single (value.text t.0), t.1)

-- how many bytes an element takes at least
abbrev pub width_of : Scalar → ℕ
width_of Bool = 1
width_of I8 = 1
width_of I16 = 2
width_of I32 = 4
width_of I64 = 8
width_of U8 = 1
width_of U16 = 2
width_of U32 = 4
width_of U64 = 8
width_of F32 = 4
width_of F64 = 8
width_of Text = 1

-- The count of a list of this extent, whose elements take at least so many bytes each: what the bytes after it can hold.
unfoldable pub extent_at : Order → Extent → ℕ → List ℕ → Read (List ℕ) ℕ
extent_at order Variable width bytes = lifted (counted_at order width bytes)
extent_at order (Bounded bound) width bytes = lifted (count_at order bytes) >>= λ n. judged bound (Some n.0) (length bytes) (lifted (counted_at order width bytes))
extent_at order (Fixed size) width bytes = if nat_lt (length bytes) (size * width) then Err (Wire Short, length bytes) else Ok (size, bytes)

-- n items, one after another
unfoldable pub items_at : {A S : Type 0} → (S → Read S A) → ℕ → S → Read S (List A)
items_at item zero s = Ok ([], s)
items_at item (suc n) s = item s >>= λ x. items_at item n x.1 >>= λ xs. Ok (x.0 ∷ xs.0, xs.1)

-- so many scalars
unfoldable pub elements_at : Order → Scalar → ℕ → List ℕ → Read (List ℕ) Data
elements_at order Bool n bytes = items_at bool_at n bytes >>= λ x. Ok (many (value.booleans x.0), x.1)
elements_at order I8 n bytes = items_at (valued (cast_signed w8) order 1) n bytes >>= λ x. Ok (many (value.bytes x.0), x.1)
elements_at order I16 n bytes = items_at (valued (cast_signed w16) order 2) n bytes >>= λ x. Ok (many (value.shorts x.0), x.1)
elements_at order I32 n bytes = items_at (valued (cast_signed w32) order 4) n bytes >>= λ x. Ok (many (value.ints x.0), x.1)
elements_at order I64 n bytes = items_at (valued (cast_signed w64) order 8) n bytes >>= λ x. Ok (many (value.longs x.0), x.1)
elements_at order U8 n bytes = items_at (valued (λ n. n) order 1) n bytes >>= λ x. Ok (many (value.ubytes x.0), x.1)
elements_at order U16 n bytes = items_at (valued (λ n. n) order 2) n bytes >>= λ x. Ok (many (value.ushorts x.0), x.1)
elements_at order U32 n bytes = items_at (valued (λ n. n) order 4) n bytes >>= λ x. Ok (many (value.uints x.0), x.1)
elements_at order U64 n bytes = items_at (valued (λ n. n) order 8) n bytes >>= λ x. Ok (many (value.ulongs x.0), x.1)
elements_at order F32 n bytes = items_at (valued (λ n. n) order 4) n bytes >>= λ x. Ok (many (value.floats x.0), x.1)
elements_at order F64 n bytes = items_at (valued (λ n. n) order 8) n bytes >>= λ x. Ok (many (value.doubles x.0), x.1)
elements_at order Text n bytes = items_at (λ b. lifted (text_at order b)) n bytes >>= λ x. Ok (many (value.texts x.0), x.1)

unfoldable pub list_at : Order → Scalar → Extent → List ℕ → Read (List ℕ) Data
list_at order s e bytes = extent_at order e (width_of s) bytes >>= λ n. elements_at order s n.0 n.1

-- what stands where one may be null, after its flag
abbrev pub flagged_of : {A : Type 0} → (State → Read State (Option A)) → Truth → State → Read State (Option A)
flagged_of one false s = Ok (None, s)
flagged_of one true s = one s

unfoldable pub flagged : {A : Type 0} → (State → Read State (Option A)) → State → Read State (Option A)
flagged one s = bool_at s.0 >>= λ b. flagged_of one b.0 (b.1, s.1)

-- a count, and so many elements, each of which may be null
unfoldable pub listed : {A : Type 0} → Order → (State → Read State (Option A)) → State → Read State (List (Option A))
listed order one s = lifted (counted_at order 1 s.0) >>= λ n. items_at (flagged one) n.0 (n.1, s.1)

-- an element that isn't null
abbrev pub present : Read State Data → Read State (Option Data)
present read = read >>= λ v. Ok (Some v.0, v.1)

abbrev pub union_of : (ℕ → Read State Data) → Option ℕ → State → Read State Data
union_of member None s = Ok (unset, s)
union_of member (Some n) s = member n

-- a union, where the member of a selector is read by the function given, which takes how many bytes were left from the selector on
abbrev pub union_by : Order → (ℕ → ℕ → State → Read State Data) → State → Read State Data
union_by order member s = lifted (size_at order s.0) >>= λ n. union_of (λ k. member k (length s.0) (n.1, s.1)) n.0 (n.1, s.1)

-- a type and a value of it, or null
abbrev pub Parcel : Type 0
Parcel = Option (Tree × Data)

abbrev pub variant_of : Parcel → Data
variant_of None = empty
variant_of (Some p) = carried p.0 p.1

abbrev pub variant_with : (State → Read State Parcel) → State → Read State Data
variant_with parcel st = parcel st >>= λ p. Ok (variant_of p.0, p.1)

-- A value, where what stands in a variant is read by the function given.
module _ (order : Order) (parcel : State → Read State Parcel) where
  abbrev pub leaf_with : Leaf → State → Read State Data
  leaf_with (plain s) st = steady st.1 (scalar_at order s st.0)
  leaf_with (bound_text bound) st = steady st.1 (bound_text_at order bound st.0)
  leaf_with (list s e) st = steady st.1 (list_at order s e st.0)
  leaf_with variant st = variant_with parcel st
  leaf_with variant_list st = listed order parcel st >>= λ ps. Ok (variants (parcels_of ps.0), ps.1)

  unfoldable mutual
    pub value_with : Tree → State → Read State Data
    value_with (leaf l) st = leaf_with l st
    value_with (node struct id fs) st = row_with fs st >>= λ r. Ok (members r.0, r.1)
    value_with (node union id fs) st = union_by order (λ n left s. member_with fs n n left s) st
    value_with (node struct_list id fs) st = listed order (λ s. present (row_with fs s >>= λ r. Ok (members r.0, r.1))) st >>= λ vs. Ok (structs (gaps_of vs.0), vs.1)
    value_with (node union_list id fs) st = listed order (λ s. present (union_by order (λ n left s. member_with fs n n left s) s)) st >>= λ vs. Ok (unions (gaps_of vs.0), vs.1)

    -- the values of members, in order
    pub row_with : Fields → State → Read State Row
    row_with no_fields st = Ok (end, st)
    row_with (field name t fs) st = value_with t st >>= λ v. row_with fs v.1 >>= λ vs. Ok (more v.0 vs.0, vs.1)

    -- the value of the member that n selects, where so many bytes were left from the selector on
    pub member_with : Fields → ℕ → ℕ → ℕ → State → Read State Data
    member_with no_fields n place left st = Err (BadSelector n, left)
    member_with (field name t fs) n zero left st = value_with t st >>= λ v. Ok (selected n v.0, v.1)
    member_with (field name t fs) n (suc place) left st = member_with fs n place left st

-- an element of a list of structures or unions with these members
abbrev pub element_with : Order → (State → Read State Parcel) → Element → Fields → State → Read State (Option Data)
element_with order parcel elements.Struct fs st = present (row_with order parcel fs st >>= λ r. Ok (members r.0, r.1))
element_with order parcel elements.Union fs st = present (union_by order (λ n left s. member_with order parcel fs n n left s) st)

-- a type and a value of it
abbrev pub pair_view : Tree × PvValue → Tree × Data
pair_view p = (p.0, view p.1)

abbrev pub parcel_of : (Tree → State → Read State Data) → Option Tree → State → Read State Parcel
parcel_of carries None st = Ok (None, st)
parcel_of carries (Some t) st = carries t st >>= λ v. Ok (Some (t, v.0), v.1)

-- What stands in a variant, where so many variants may stand inside one another. One too many is a fault at its description, whatever stands there.
unfoldable pub parcel_at : ℕ → Order → State → Read State Parcel
parcel_at zero order st = Err (TooNested, length st.0)
parcel_at (suc left) order st = described (desc_at order st.1 st.0) >>= λ d. parcel_of (value_with order (parcel_at left order)) d.0 (d.1, d.2)

-- a union of these members
abbrev pub union_at : ℕ → Order → Fields → State → Read State Data
union_at left order fs st = union_by order (λ n place s. member_with order (parcel_at left order) fs n n place s) st

abbrev pub row_at : ℕ → Order → Fields → State → Read State Row
row_at left order fs st = row_with order (parcel_at left order) fs st

abbrev pub element_at : ℕ → Order → Element → Fields → State → Read State (Option Data)
element_at left order e fs st = flagged (element_with order (parcel_at left order) e fs) st

abbrev pub value_at : ℕ → Order → Tree → State → Read State Data
value_at left order t st = value_with order (parcel_at left order) t st

-- a whole value
abbrev pub full_at : Order → Tree → State → Read State Data
full_at order t st = value_at 16 order t st

-- the first of so many numbers from n on that is marked
unfoldable pub first_marked : (ℕ → Truth) → ℕ → ℕ → Option ℕ
first_marked marked n zero = None
first_marked marked n (suc k) = if marked n then Some n else first_marked marked (n + 1) k

abbrev pub unless_outside : Option ℕ → ℕ → Result (Unit {0}) (ValueCause × ℕ)
unless_outside None left = Ok tt
unless_outside (Some n) left = Err (BitOutside n, left)

-- The leaves that a set of bits marks. The least bit at or above the count of the type's nodes is a fault, at the set; it may be above 65,535.
unfoldable pub marks_at : Order → Tree → List ℕ → Read (List ℕ) (FinSet nat_cmp)
marks_at order t bytes =
    lifted (counted_at order 1 bytes) >>= λ n.
    unless_outside (first_marked (byte_bit order (take n.0 n.1)) (length (numbered t)) (8 * n.0 - length (numbered t))) (length bytes) >>= λ u.
    lifted (bits_at order bytes) >>= λ s. Ok (marked_leaves t s.0, s.1)

-- what stands under a number: a value where the number is marked
abbrev pub slot_at : Truth → Order → Tree → State → Read State Data
slot_at true order t st = full_at order t st
slot_at false order t st = Ok (blank_of t, st)

-- The marked leaves in the order of their numbers, which are counted from n; the others are blank.
module _ (order : Order) (marked : ℕ → Truth) where
  unfoldable mutual
    pub marked_with : ℕ → Tree → State → Read State Data
    marked_with n (leaf l) st = slot_at (marked n) order (leaf l) st
    marked_with n (node struct id fs) st = marked_row (n + 1) fs st >>= λ r. Ok (members r.0, r.1)
    marked_with n (node union id fs) st = slot_at (marked n) order (node union id fs) st
    marked_with n (node struct_list id fs) st = slot_at (marked n) order (node struct_list id fs) st
    marked_with n (node union_list id fs) st = slot_at (marked n) order (node union_list id fs) st

    pub marked_row : ℕ → Fields → State → Read State Row
    marked_row n no_fields st = Ok (end, st)
    marked_row n (field name t fs) st = marked_with n t st >>= λ v. marked_row (n + length (numbered t)) fs v.1 >>= λ vs. Ok (more v.0 vs.0, vs.1)

-- a part: a set of bits, and the marked leaves
unfoldable pub part_at : Order → Tree → State → Read State (FinSet nat_cmp × Data)
part_at order t st = marks_at order t st.0 >>= λ m. marked_with order (contains m.0) 0 t (m.1, st.1) >>= λ v. Ok ((m.0, v.0), v.1)
