-- The types that records show (EPICS Normative Types 1.0).
use Rattle.pvd_type.specs.Tree.{Tree}
use Rattle.pvd_type.specs.declared.shape.Scalar.{Scalar}
use Rattle.pvd_type.specs.declared.shape.Scalar.TheVariants as scalars
use Rattle.nt_types.specs.Types.{scalar_tree, scalar_array_tree, enum_tree}
use Rattle.rec_kinds.specs.Configs.{Config}
use Rattle.rec_kinds.specs.declared.kind.Kind.{Kind}
use Rattle.rec_kinds.specs.declared.kind.Kind.TheVariants.{Longin, Longout, Int64in, Int64out, Bi, Bo, Mbbi, Mbbo, Stringin, Stringout, Waveform}
use Rattle.rec_kinds.specs.declared.element.Element.{Element}
use Rattle.rec_kinds.specs.declared.element.Element.TheVariants as elements

abbrev pub scalar_of : Element → Scalar
scalar_of elements.Text = scalars.Text
scalar_of elements.I8 = scalars.I8
scalar_of elements.U8 = scalars.U8
scalar_of elements.I16 = scalars.I16
scalar_of elements.U16 = scalars.U16
scalar_of elements.I32 = scalars.I32
scalar_of elements.U32 = scalars.U32
scalar_of elements.I64 = scalars.I64
scalar_of elements.U64 = scalars.U64

-- the type of a record, whose elements are of this type where it is a list
abbrev pub tree_of : Kind → Element → Tree
tree_of Longin ftvl = scalar_tree scalars.I32
tree_of Longout ftvl = scalar_tree scalars.I32
tree_of Int64in ftvl = scalar_tree scalars.I64
tree_of Int64out ftvl = scalar_tree scalars.I64
tree_of Bi ftvl = enum_tree
tree_of Bo ftvl = enum_tree
tree_of Mbbi ftvl = enum_tree
tree_of Mbbo ftvl = enum_tree
tree_of Stringin ftvl = scalar_tree scalars.Text
tree_of Stringout ftvl = scalar_tree scalars.Text
tree_of Waveform ftvl = scalar_array_tree (scalar_of ftvl)

-- The type that a record shows.
abbrev pub record_tree : Config → Tree
record_tree config = tree_of config.kind config.ftvl
