-- What the code bytes stand for (pvAccess Protocol Specification, "Introspection Data", "FieldDesc encoding").
use Rattle.std.specs.Prelude.{ℕ, ◌+◌, ◌*◌, ◌/◌, ◌%◌, Bool as Truth, true, false, ◌==◌, if◌then◌else◌, Option, Some, None}
use Rattle.pvd_type.specs.declared.shape.Scalar.{Scalar}
use Rattle.pvd_type.specs.declared.shape.Scalar.TheVariants.{Bool, I8, I16, I32, I64, U8, U16, U32, U64, F32, F64, Text}
use Rattle.pvd_type.specs.Tree.{Tree, leaf, node, Kind, struct, union, struct_list, union_list}
use Rattle.pvd_desc.specs.declared.code.Code.{Code}
use Rattle.pvd_desc.specs.declared.code.Code.TheVariants as code
use Rattle.pvd_desc.specs.declared.code.Element.{Element}
use Rattle.pvd_desc.specs.declared.code.Element.TheVariants as elements

-- the code of a scalar; its lists have the same code with 8, 16 or 24 added
abbrev pub scalar_code : Scalar → ℕ
scalar_code Bool = 0
scalar_code I8 = 0x20
scalar_code I16 = 0x21
scalar_code I32 = 0x22
scalar_code I64 = 0x23
scalar_code U8 = 0x24
scalar_code U16 = 0x25
scalar_code U32 = 0x26
scalar_code U64 = 0x27
scalar_code F32 = 0x42
scalar_code F64 = 0x43
scalar_code Text = 0x60

-- the scalar of a code
unfoldable pub scalar_of : ℕ → Option Scalar
scalar_of b =
    if b == 0 then Some Bool
    else if b == 0x20 then Some I8
    else if b == 0x21 then Some I16
    else if b == 0x22 then Some I32
    else if b == 0x23 then Some I64
    else if b == 0x24 then Some U8
    else if b == 0x25 then Some U16
    else if b == 0x26 then Some U32
    else if b == 0x27 then Some U64
    else if b == 0x42 then Some F32
    else if b == 0x43 then Some F64
    else if b == 0x60 then Some Text
    else None

-- a scalar, or one of its lists: variable, bounded or fixed
abbrev pub of_form : Option Scalar → ℕ → Code
of_form None form = code.Unknown
of_form (Some s) form =
    if form == 0 then code.Plain s
    else if form == 1 then code.List s
    else if form == 2 then code.Bounded s
    else code.Fixed s

-- What a code byte stands for. Of a scalar's byte the bits 3 and 4 say whether it is a list, and of which form; the others name the scalar.
unfoldable pub code_of : ℕ → Code
code_of b =
    if b == 0x80 then code.Struct
    else if b == 0x81 then code.Union
    else if b == 0x82 then code.Variant
    else if b == 0x83 then code.BoundText
    else if b == 0x88 then code.StructList
    else if b == 0x89 then code.UnionList
    else if b == 0x8A then code.VariantList
    else if b == 0xFE then code.Cached
    else of_form (scalar_of (b / 32 * 32 + b % 8)) (b / 8 % 4)

-- whether a list of such nodes takes this code for its element
abbrev pub takes : Element → Code → Truth
takes elements.Struct code.Struct = true
takes elements.Union code.Union = true
takes _ _ = false

-- the node that is an element
abbrev pub element : Element → Kind
element elements.Struct = struct
element elements.Union = union

-- whether a type is such an element
abbrev pub is_element : Element → Tree → Truth
is_element elements.Struct (node struct id fs) = true
is_element elements.Union (node union id fs) = true
is_element _ _ = false

abbrev pub list_kind : Kind → Kind
list_kind struct = struct_list
list_kind union = union_list
list_kind struct_list = struct_list
list_kind union_list = union_list

-- the list of a node
abbrev pub list_tree : Tree → Tree
list_tree (leaf l) = leaf l
list_tree (node k id fs) = node (list_kind k) id fs
