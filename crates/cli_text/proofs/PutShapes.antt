-- What no word gives, and what is no part of an enum.
use Rattle.std.proofs.Common.{◌≡◌, ℕ, false, Result, Err, refl, Global}
use Rattle.std.specs.declared.sync.Arc.{Arc}
use Rattle.pvd_type.specs.Tree.{Leaf, variant, variant_list}
use Rattle.pvd_type.specs.View.{shape_view}
use Rattle.pvd_type.specs.declared.shape.Node.{Node}
use Rattle.pvd_type.specs.declared.shape.Scalar.{Scalar}
use Rattle.pvd_type.specs.declared.shape.Extent.{Extent}
use Rattle.pvd_type.specs.declared.shape.Shape.{Shape, Plain, BoundText, List, Struct', Union', StructList', UnionList', Variant, VariantList}
use Rattle.pvd_type.proofs.Shapes.{plain_is, bound_text_is, list_is, struct_is, union_is, struct_list_is, union_list_is, variant_is, variant_list_is}
use Rattle.pvd_value.specs.Data.{Data}
use Rattle.cli_text.specs.declared.fault.Cause.{Cause}
use Rattle.cli_text.specs.declared.fault.Cause.TheVariants.{NoField}
use Rattle.cli_text.specs.Put.{given, is_index, is_choices}

abbrev shared : Arc (Unit {0}) Global → Node → Arc Node Global
shared p n = record { ptr = p.ptr; value = n }

module _ (f : Leaf → Data → Result Data Cause) (v : Data) (any : f variant v ≡ Err NoField) (anys : f variant_list v ≡ Err NoField) where
  pub ungiven : (b : Shape) → ((s : Scalar) → b ≡ Plain s → ⊥) → ((n : ℕ) → b ≡ BoundText n → ⊥) → ((s : Scalar) (e : Extent) → b ≡ List s e → ⊥) → given f (shape_view b) v ≡ Err NoField
  ungiven (Plain s) p t l = absurd (p s refl)
  ungiven (BoundText n) p t l = absurd (t n refl)
  ungiven (List s e) p t l = absurd (l s e refl)
  ungiven (Struct' q n) p t l = rw (struct_is (shared q n)) refl
  ungiven (Union' q n) p t l = rw (union_is (shared q n)) refl
  ungiven (StructList' q n) p t l = rw (struct_list_is (shared q n)) refl
  ungiven (UnionList' q n) p t l = rw (union_list_is (shared q n)) refl
  ungiven Variant p t l = rw variant_is any
  ungiven VariantList p t l = rw variant_list_is anys

pub no_index : (b : Shape) → ((s : Scalar) → b ≡ Plain s → ⊥) → false ≡ is_index (shape_view b)
no_index (Plain s) h = absurd (h s refl)
no_index (BoundText n) h = rw (bound_text_is n) refl
no_index (List s e) h = rw (list_is s e) refl
no_index (Struct' q n) h = rw (struct_is (shared q n)) refl
no_index (Union' q n) h = rw (union_is (shared q n)) refl
no_index (StructList' q n) h = rw (struct_list_is (shared q n)) refl
no_index (UnionList' q n) h = rw (union_list_is (shared q n)) refl
no_index Variant h = rw variant_is refl
no_index VariantList h = rw variant_list_is refl

pub no_choices : (b : Shape) → ((s : Scalar) (e : Extent) → b ≡ List s e → ⊥) → false ≡ is_choices (shape_view b)
no_choices (Plain s) h = rw (plain_is s) refl
no_choices (BoundText n) h = rw (bound_text_is n) refl
no_choices (List s e) h = absurd (h s e refl)
no_choices (Struct' q n) h = rw (struct_is (shared q n)) refl
no_choices (Union' q n) h = rw (union_is (shared q n)) refl
no_choices (StructList' q n) h = rw (struct_list_is (shared q n)) refl
no_choices (UnionList' q n) h = rw (union_list_is (shared q n)) refl
no_choices Variant h = rw variant_is refl
no_choices VariantList h = rw variant_list_is refl
