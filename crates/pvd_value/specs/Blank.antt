-- The value that a type begins with.
use Rattle.std.specs.Prelude.{ℕ, ◌+◌, ◌*◌, [], false, pos, replicate}
use Rattle.pvd_type.specs.Tree.{Tree, leaf, node, Leaf, plain, bound_text, list, variant, variant_list, struct, union, struct_list, union_list, Fields, no_fields, field}
use Rattle.pvd_type.specs.declared.shape.Scalar.{Scalar}
use Rattle.pvd_type.specs.declared.shape.Scalar.TheVariants as scalar
use Rattle.pvd_type.specs.declared.shape.Extent.{Extent}
use Rattle.pvd_type.specs.declared.shape.Extent.TheVariants.{Variable, Bounded, Fixed}
use Rattle.pvd_value.specs.Data.{Data, Single, boolean, byte, short, int, long, ubyte, ushort, uint, ulong, float, double, text, Many, booleans, bytes, shorts, ints, longs, ubytes, ushorts, uints, ulongs, floats, doubles, texts, single, many, members, unset, empty, structs, unions, variants, Row, end, more}

-- zero, false or the empty text
abbrev pub blank_single : Scalar → Single
blank_single scalar.Bool = boolean false
blank_single scalar.I8 = byte (pos 0)
blank_single scalar.I16 = short (pos 0)
blank_single scalar.I32 = int (pos 0)
blank_single scalar.I64 = long (pos 0)
blank_single scalar.U8 = ubyte 0
blank_single scalar.U16 = ushort 0
blank_single scalar.U32 = uint 0
blank_single scalar.U64 = ulong 0
blank_single scalar.F32 = float 0
blank_single scalar.F64 = double 0
blank_single scalar.Text = text []

-- so many of them
abbrev pub blank_many : Scalar → ℕ → Many
blank_many scalar.Bool n = booleans (replicate n false)
blank_many scalar.I8 n = bytes (replicate n (pos 0))
blank_many scalar.I16 n = shorts (replicate n (pos 0))
blank_many scalar.I32 n = ints (replicate n (pos 0))
blank_many scalar.I64 n = longs (replicate n (pos 0))
blank_many scalar.U8 n = ubytes (replicate n 0)
blank_many scalar.U16 n = ushorts (replicate n 0)
blank_many scalar.U32 n = uints (replicate n 0)
blank_many scalar.U64 n = ulongs (replicate n 0)
blank_many scalar.F32 n = floats (replicate n 0)
blank_many scalar.F64 n = doubles (replicate n 0)
blank_many scalar.Text n = texts (replicate n [])

-- how many elements a list has at least
abbrev pub least_count : Extent → ℕ
least_count Variable = 0
least_count (Bounded bound) = 0
least_count (Fixed size) = size

abbrev pub blank_leaf : Leaf → Data
blank_leaf (plain s) = single (blank_single s)
blank_leaf (bound_text bound) = single (text [])
blank_leaf (list s e) = many (blank_many s (least_count e))
blank_leaf variant = empty
blank_leaf variant_list = variants end

-- zeros, false, empty texts and lists, fixed lists full of zeros, and null unions and variants
abbrev mutual
  pub blank_of : Tree → Data
  blank_of (leaf l) = blank_leaf l
  blank_of (node struct id fs) = members (blank_row fs)
  blank_of (node union id fs) = unset
  blank_of (node struct_list id fs) = structs end
  blank_of (node union_list id fs) = unions end

  pub blank_row : Fields → Row
  blank_row no_fields = end
  blank_row (field name t fs) = more (blank_of t) (blank_row fs)

-- how many bytes an element of a list takes in memory
abbrev pub element_bytes : Scalar → ℕ
element_bytes scalar.Bool = 1
element_bytes scalar.I8 = 1
element_bytes scalar.I16 = 2
element_bytes scalar.I32 = 4
element_bytes scalar.I64 = 8
element_bytes scalar.U8 = 1
element_bytes scalar.U16 = 2
element_bytes scalar.U32 = 4
element_bytes scalar.U64 = 8
element_bytes scalar.F32 = 4
element_bytes scalar.F64 = 8
element_bytes scalar.Text = 24

-- how many bytes a blank list takes
abbrev pub list_bytes : Scalar → Extent → ℕ
list_bytes s e = least_count e * element_bytes s

-- how many bytes the lists of a blank value take: only those of a fixed length aren't empty
abbrev mutual
  pub fixed_bytes : Tree → ℕ
  fixed_bytes (leaf (plain s)) = 0
  fixed_bytes (leaf (bound_text bound)) = 0
  fixed_bytes (leaf (list s e)) = list_bytes s e
  fixed_bytes (leaf variant) = 0
  fixed_bytes (leaf variant_list) = 0
  fixed_bytes (node struct id fs) = fixed_bytes_in fs
  fixed_bytes (node union id fs) = 0
  fixed_bytes (node struct_list id fs) = 0
  fixed_bytes (node union_list id fs) = 0

  pub fixed_bytes_in : Fields → ℕ
  fixed_bytes_in no_fields = 0
  fixed_bytes_in (field name t fs) = fixed_bytes t + fixed_bytes_in fs
