-- Which values a type has.
use Rattle.std.specs.Prelude.{ℕ, zero, suc, ◌-◌, Bool, true, false, ◌==◌, ◌&&◌, length, Option, Some, None, nat_lt, nat_le}
use Rattle.pvd_type.specs.Tree.{Tree, leaf, node, plain, bound_text, list, variant, variant_list, struct, union, struct_list, union_list, Fields, no_fields, field}
use Rattle.pvd_type.specs.Same.{same_scalar}
use Rattle.pvd_type.specs.declared.shape.Scalar.{Scalar}
use Rattle.pvd_type.specs.declared.shape.Scalar.TheVariants as scalar
use Rattle.pvd_type.specs.declared.shape.Extent.{Extent}
use Rattle.pvd_type.specs.declared.shape.Extent.TheVariants.{Variable, Bounded, Fixed}
use Rattle.pvd_value.specs.Data.{Data, Single, boolean, byte, short, int, long, ubyte, ushort, uint, ulong, float, double, text, Many, booleans, bytes, shorts, ints, longs, ubytes, ushorts, uints, ulongs, floats, doubles, texts, single, many, members, unset, selected, empty, carried, structs, unions, variants, Row, end, more, gap}

-- which scalar it is
abbrev pub scalar_of : Single → Scalar
scalar_of (boolean x) = scalar.Bool
scalar_of (byte x) = scalar.I8
scalar_of (short x) = scalar.I16
scalar_of (int x) = scalar.I32
scalar_of (long x) = scalar.I64
scalar_of (ubyte x) = scalar.U8
scalar_of (ushort x) = scalar.U16
scalar_of (uint x) = scalar.U32
scalar_of (ulong x) = scalar.U64
scalar_of (float x) = scalar.F32
scalar_of (double x) = scalar.F64
scalar_of (text x) = scalar.Text

-- of which scalar the elements are, and how many there are
abbrev pub element_of : Many → Scalar
element_of (booleans xs) = scalar.Bool
element_of (bytes xs) = scalar.I8
element_of (shorts xs) = scalar.I16
element_of (ints xs) = scalar.I32
element_of (longs xs) = scalar.I64
element_of (ubytes xs) = scalar.U8
element_of (ushorts xs) = scalar.U16
element_of (uints xs) = scalar.U32
element_of (ulongs xs) = scalar.U64
element_of (floats xs) = scalar.F32
element_of (doubles xs) = scalar.F64
element_of (texts xs) = scalar.Text

abbrev pub count_of : Many → ℕ
count_of (booleans xs) = length xs
count_of (bytes xs) = length xs
count_of (shorts xs) = length xs
count_of (ints xs) = length xs
count_of (longs xs) = length xs
count_of (ubytes xs) = length xs
count_of (ushorts xs) = length xs
count_of (uints xs) = length xs
count_of (ulongs xs) = length xs
count_of (floats xs) = length xs
count_of (doubles xs) = length xs
count_of (texts xs) = length xs

-- whether a list of this extent may have so many elements
abbrev pub allows : Extent → ℕ → Bool
allows Variable n = true
allows (Bounded bound) n = nat_le n bound
allows (Fixed size) n = n == size

-- whether a text has at most so many bytes
abbrev pub within_text : Single → ℕ → Bool
within_text (text t) bound = nat_le (length t) bound
within_text _ bound = false

-- the type of the member in place n
abbrev pub member_at : ℕ → Fields → Option Tree
member_at n no_fields = None
member_at zero (field name t fs) = Some t
member_at (suc n) (field name t fs) = member_at n fs

abbrev pub some_and : {A : Type 0} → (A → Bool) → Option A → Bool
some_and test None = false
some_and test (Some x) = test x

-- Whether a value fits a type, where so many variants may stand inside one another.
-- An element of a list of structures, unions or variants may be null; else it counts as a value of that kind by itself.
abbrev mutual
  pub fits_of : ℕ → Data → Tree → Bool
  fits_of left (single x) (leaf (plain s)) = same_scalar (scalar_of x) s
  fits_of left (single x) (leaf (bound_text bound)) = within_text x bound
  fits_of left (many xs) (leaf (list s e)) = same_scalar (element_of xs) s && allows e (count_of xs)
  fits_of left (members vs) (node struct id fs) = row_fits left vs fs
  fits_of left unset (node union id fs) = true
  fits_of left (selected n v) (node union id fs) = some_and (fits_of left v) (member_at n fs)
  fits_of left empty (leaf variant) = nat_lt 0 left
  fits_of left (carried t v) (leaf variant) = nat_lt 0 left && fits_of (left - 1) v t
  fits_of left (structs vs) (node struct_list id fs) = all_fit left vs (node struct id fs)
  fits_of left (unions vs) (node union_list id fs) = all_fit left vs (node union id fs)
  fits_of left (variants vs) (leaf variant_list) = all_fit left vs (leaf variant)
  fits_of left _ _ = false

  -- each value fits the member in its place
  pub row_fits : ℕ → Row → Fields → Bool
  row_fits left end no_fields = true
  row_fits left (more v vs) (field name t fs) = fits_of left v t && row_fits left vs fs
  row_fits left _ _ = false

  -- each element is null or fits
  pub all_fit : ℕ → Row → Tree → Bool
  all_fit left end t = true
  all_fit left (gap vs) t = all_fit left vs t
  all_fit left (more v vs) t = fits_of left v t && all_fit left vs t
