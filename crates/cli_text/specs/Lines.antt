-- The lines that a client prints of a value and of a type.
use Rattle.std.specs.Prelude.{ℕ, ◌+◌, Bool, false, List, [], ◌∷◌, ◌++◌, length, codes, if◌then◌else◌}
use Rattle.std.specs.Ordering.{nat_cmp}
use Rattle.std.specs.FinSet.{FinSet, contains}
use Rattle.std.specs.Fmt.{decimal}
use Rattle.pvd_type.specs.declared.shape.Scalar.{Scalar}
use Rattle.pvd_type.specs.declared.shape.Scalar.TheVariants as scalar
use Rattle.pvd_type.specs.declared.shape.Extent.{Extent}
use Rattle.pvd_type.specs.declared.shape.Extent.TheVariants.{Variable, Bounded, Fixed}
use Rattle.pvd_type.specs.Tree.{Tree, leaf, node, Leaf, plain, bound_text, list, variant, variant_list, Kind, struct, union, struct_list, union_list, Fields, no_fields, field}
use Rattle.pvd_type.specs.Numbers.{entered, numbered}
use Rattle.pvd_value.specs.Data.{Data, Row, more}
use Rattle.pvd_value.specs.Leaves.{row_in}
use Rattle.cli_text.specs.Texts.{text_of}

-- a path with a mark behind it; the empty path has none
abbrev pub followed : List ℕ → ℕ → List ℕ
followed [] mark = []
followed (c ∷ cs) mark = (c ∷ cs) ++ mark ∷ []

-- the path of a member: the names that lead to it, with dots between them
abbrev pub path_to : List ℕ → List ℕ → List ℕ
path_to path name = followed path 46 ++ name

abbrev pub overrun_text : Bool → List ℕ
overrun_text over = if over then codes " overrun" else []

-- One line: a path, a space and a text, and ` overrun` where so many changes came that some were lost. The empty path has no space.
abbrev pub line : List ℕ → List ℕ → Bool → List ℕ
line path t over = followed path 32 ++ (t ++ (overrun_text over ++ 10 ∷ []))

-- a leaf's line, where it is marked
abbrev pub leaf_line : Bool → Bool → List ℕ → Tree → Data → List ℕ
leaf_line marked over path t v = if marked then line path (text_of v t) over else []

-- The lines of the marked leaves in the order of their numbers, which are counted from n. Only structures are entered.
abbrev mutual
  pub lines_of : (ℕ → Bool) → (ℕ → Bool) → ℕ → List ℕ → Tree → Data → List ℕ
  lines_of marked over n path (leaf l) v = leaf_line (marked n) (over n) path (leaf l) v
  lines_of marked over n path (node k id fs) v =
      entered k (lines_among marked over (n + 1) path fs (row_in v)) (leaf_line (marked n) (over n) path (node k id fs) v)

  pub lines_among : (ℕ → Bool) → (ℕ → Bool) → ℕ → List ℕ → Fields → Row → List ℕ
  lines_among marked over n path (field name t fs) (more v vs) =
      lines_of marked over n (path_to path name) t v ++ lines_among marked over (n + length (numbered t)) path fs vs
  lines_among marked over n path fs vs = []

-- what is printed of a value: the lines of its leaves in the mask, of which those in the other set were overrun
abbrev pub part_text : FinSet nat_cmp → FinSet nat_cmp → Tree → Data → List ℕ
part_text mask overrun t v = lines_of (contains mask) (contains overrun) 0 [] t v

-- pvData Meta Language, "Scalars"
abbrev pub scalar_name : Scalar → List ℕ
scalar_name scalar.Bool = codes "boolean"
scalar_name scalar.I8 = codes "byte"
scalar_name scalar.I16 = codes "short"
scalar_name scalar.I32 = codes "int"
scalar_name scalar.I64 = codes "long"
scalar_name scalar.U8 = codes "ubyte"
scalar_name scalar.U16 = codes "ushort"
scalar_name scalar.U32 = codes "uint"
scalar_name scalar.U64 = codes "ulong"
scalar_name scalar.F32 = codes "float"
scalar_name scalar.F64 = codes "double"
scalar_name scalar.Text = codes "string"

-- how many elements there may be: `[]`, `[<=5]` or `[5]`
abbrev pub extent_text : Extent → List ℕ
extent_text Variable = codes "[]"
extent_text (Bounded n) = codes "[<=" ++ (decimal n ++ 93 ∷ [])
extent_text (Fixed n) = 91 ∷ (decimal n ++ 93 ∷ [])

abbrev pub bound_text_name : ℕ → List ℕ
bound_text_name n = codes "string(<=" ++ (decimal n ++ 41 ∷ [])

abbrev pub leaf_name : Leaf → List ℕ
leaf_name (plain s) = scalar_name s
leaf_name (bound_text n) = bound_text_name n
leaf_name (list s e) = scalar_name s ++ extent_text e
leaf_name variant = codes "any"
leaf_name variant_list = codes "any[]"

abbrev pub kind_name : Kind → List ℕ
kind_name struct = codes "structure"
kind_name union = codes "union"
kind_name struct_list = codes "structure[]"
kind_name union_list = codes "union[]"

-- an id behind a space, where there is one
abbrev pub id_text : List ℕ → List ℕ
id_text [] = []
id_text (c ∷ cs) = 32 ∷ c ∷ cs

abbrev pub type_name : Tree → List ℕ
type_name (leaf l) = leaf_name l
type_name (node k id fs) = kind_name k ++ id_text id

-- The lines of the nodes below a node that have numbers, in the order of the numbers: path and type name.
abbrev mutual
  pub nodes_below : List ℕ → Tree → List ℕ
  nodes_below path (leaf l) = []
  nodes_below path (node k id fs) = entered k (nodes_among path fs) []

  pub nodes_among : List ℕ → Fields → List ℕ
  nodes_among path no_fields = []
  nodes_among path (field name t fs) = line (path_to path name) (type_name t) false ++ (nodes_below (path_to path name) t ++ nodes_among path fs)

abbrev pub type_text : Tree → List ℕ
type_text t = nodes_below [] t
