-- The types that are made are recognised.
use Rattle.std.proofs.Common.{◌≡◌, ℕ, true, List, [], ◌∷◌, None, Some, if◌then◌else◌, refl, ap}
use Rattle.pvd_type.specs.declared.shape.Scalar.{Scalar}
use Rattle.nt_types.specs.Kinds.{recognised, all_lists}
use Rattle.nt_types.specs.Types.{scalar_tree, scalar_array_tree, enum_tree, table_tree, uri_tree, fields_by, list_of}
use Rattle.nt_types.specs.declared.kind.NtKind.TheVariants.{NtScalar, NtScalarArray, NtEnum, NtTable, NtUri}

columns_are_lists : (columns : List (List ℕ × Scalar)) → all_lists (fields_by list_of columns) ≡ true
columns_are_lists [] = refl
columns_are_lists (c ∷ cs) = columns_are_lists cs

pub a_scalar : (s : Scalar) → recognised (scalar_tree s) ≡ Some NtScalar
a_scalar s = refl

pub a_list : (s : Scalar) → recognised (scalar_array_tree s) ≡ Some NtScalarArray
a_list s = refl

pub a_choice : recognised enum_tree ≡ Some NtEnum
a_choice = refl

pub a_table : (columns : List (List ℕ × Scalar)) → recognised (table_tree columns) ≡ Some NtTable
a_table columns = ap (λ b. if b then Some NtTable else None) (columns_are_lists columns)

pub a_uri : (query : List (List ℕ × Scalar)) → recognised (uri_tree query) ≡ Some NtUri
a_uri query = refl
