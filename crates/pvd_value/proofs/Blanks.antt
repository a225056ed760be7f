-- A blank value fits its type.
use Rattle.std.proofs.Common.{◌≡◌, ℕ, ◌<◌, true, refl, ap, ◌∙◌, arith}
use Rattle.std.proofs.lemmas.Bool.{lt-ltb, le-leb, eq-eqb}
use Rattle.std.proofs.lemmas.List.{length-replicate}
use Rattle.pvd_type.specs.SameLaws.{and_true}
use Rattle.pvd_type.specs.Same.{same_scalar}
use Rattle.pvd_type.specs.Tree.{Tree, leaf, node, plain, bound_text, list, variant, variant_list, struct, union, struct_list, union_list, Fields, no_fields, field}
use Rattle.pvd_type.specs.declared.shape.Scalar.{Scalar}
use Rattle.pvd_type.specs.declared.shape.Scalar.TheVariants as scalar
use Rattle.pvd_type.specs.declared.shape.Extent.{Extent}
use Rattle.pvd_type.specs.declared.shape.Extent.TheVariants.{Variable, Bounded, Fixed}
use Rattle.pvd_value.specs.Fits.{scalar_of, element_of, count_of, allows, fits_of, row_fits}
use Rattle.pvd_value.specs.Blank.{blank_single, blank_many, least_count, blank_of, blank_row}

single_blank : (s : Scalar) → same_scalar (scalar_of (blank_single s)) s ≡ true
single_blank scalar.Bool = refl
single_blank scalar.I8 = refl
single_blank scalar.I16 = refl
single_blank scalar.I32 = refl
single_blank scalar.I64 = refl
single_blank scalar.U8 = refl
single_blank scalar.U16 = refl
single_blank scalar.U32 = refl
single_blank scalar.U64 = refl
single_blank scalar.F32 = refl
single_blank scalar.F64 = refl
single_blank scalar.Text = refl

many_blank : (s : Scalar) (n : ℕ) → same_scalar (element_of (blank_many s n)) s ≡ true
many_blank scalar.Bool n = refl
many_blank scalar.I8 n = refl
many_blank scalar.I16 n = refl
many_blank scalar.I32 n = refl
many_blank scalar.I64 n = refl
many_blank scalar.U8 n = refl
many_blank scalar.U16 n = refl
many_blank scalar.U32 n = refl
many_blank scalar.U64 n = refl
many_blank scalar.F32 n = refl
many_blank scalar.F64 n = refl
many_blank scalar.Text n = refl

many_count : (s : Scalar) (n : ℕ) → count_of (blank_many s n) ≡ n
many_count scalar.Bool n = length-replicate n _
many_count scalar.I8 n = length-replicate n _
many_count scalar.I16 n = length-replicate n _
many_count scalar.I32 n = length-replicate n _
many_count scalar.I64 n = length-replicate n _
many_count scalar.U8 n = length-replicate n _
many_count scalar.U16 n = length-replicate n _
many_count scalar.U32 n = length-replicate n _
many_count scalar.U64 n = length-replicate n _
many_count scalar.F32 n = length-replicate n _
many_count scalar.F64 n = length-replicate n _
many_count scalar.Text n = length-replicate n _

allows_least : (e : Extent) → allows e (least_count e) ≡ true
allows_least Variable = refl
allows_least (Bounded n) = le-leb 0 n (omega arith)
allows_least (Fixed n) = eq-eqb n n refl

mutual
  pub blank_fits : (left : ℕ) (t : Tree) → 0 < left → fits_of left (blank_of t) t ≡ true
  blank_fits left (leaf (plain s)) h = single_blank s
  blank_fits left (leaf (bound_text n)) h = le-leb 0 n (omega arith)
  blank_fits left (leaf (list s e)) h =
      and_true (same_scalar (element_of (blank_many s (least_count e))) s) (allows e (count_of (blank_many s (least_count e))))
      (many_blank s (least_count e)) (ap (allows e) (many_count s (least_count e)) ∙ allows_least e)
  blank_fits left (leaf variant) h = lt-ltb 0 left h
  blank_fits left (leaf variant_list) h = refl
  blank_fits left (node struct id fs) h = row_blank left fs h
  blank_fits left (node union id fs) h = refl
  blank_fits left (node struct_list id fs) h = refl
  blank_fits left (node union_list id fs) h = refl

  row_blank : (left : ℕ) (fs : Fields) → 0 < left → row_fits left (blank_row fs) fs ≡ true
  row_blank left no_fields h = refl
  row_blank left (field name t fs) h = and_true (fits_of left (blank_of t) t) (row_fits left (blank_row fs) fs) (blank_fits left t h) (row_blank left fs h)
