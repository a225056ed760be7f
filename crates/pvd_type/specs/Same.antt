-- When two types are the same.
use Rattle.std.specs.Prelude.{Bool, true, false, ◌==◌, ◌&&◌}
use Rattle.std.specs.Str.{bytes_eq}
use Rattle.pvd_type.specs.Tree.{Tree, leaf, node, Leaf, plain, bound_text, list, variant, variant_list, Kind, struct, union, struct_list, union_list, Fields, no_fields, field}
use Rattle.pvd_type.specs.declared.shape.Scalar.{Scalar}
use Rattle.pvd_type.specs.declared.shape.Scalar.TheVariants as scalar
use Rattle.pvd_type.specs.declared.shape.Extent.{Extent}
use Rattle.pvd_type.specs.declared.shape.Extent.TheVariants.{Variable, Bounded, Fixed}

abbrev pub same_scalar : Scalar → Scalar → Bool
same_scalar scalar.Bool scalar.Bool = true
same_scalar scalar.I8 scalar.I8 = true
same_scalar scalar.I16 scalar.I16 = true
same_scalar scalar.I32 scalar.I32 = true
same_scalar scalar.I64 scalar.I64 = true
same_scalar scalar.U8 scalar.U8 = true
same_scalar scalar.U16 scalar.U16 = true
same_scalar scalar.U32 scalar.U32 = true
same_scalar scalar.U64 scalar.U64 = true
same_scalar scalar.F32 scalar.F32 = true
same_scalar scalar.F64 scalar.F64 = true
same_scalar scalar.Text scalar.Text = true
same_scalar _ _ = false

abbrev pub same_extent : Extent → Extent → Bool
same_extent Variable Variable = true
same_extent (Bounded m) (Bounded n) = m == n
same_extent (Fixed m) (Fixed n) = m == n
same_extent _ _ = false

abbrev pub same_leaf : Leaf → Leaf → Bool
same_leaf (plain s) (plain t) = same_scalar s t
same_leaf (bound_text m) (bound_text n) = m == n
same_leaf (list s e) (list t f) = same_scalar s t && same_extent e f
same_leaf variant variant = true
same_leaf variant_list variant_list = true
same_leaf _ _ = false

abbrev pub same_kind : Kind → Kind → Bool
same_kind struct struct = true
same_kind union union = true
same_kind struct_list struct_list = true
same_kind union_list union_list = true
same_kind _ _ = false

abbrev mutual
  pub same_tree : Tree → Tree → Bool
  same_tree (leaf l) (leaf m) = same_leaf l m
  same_tree (node k id fs) (node j name gs) = same_kind k j && (bytes_eq id name && same_fields fs gs)
  same_tree _ _ = false

  pub same_fields : Fields → Fields → Bool
  same_fields no_fields no_fields = true
  same_fields (field name t fs) (field other u gs) = bytes_eq name other && (same_tree t u && same_fields fs gs)
  same_fields _ _ = false
