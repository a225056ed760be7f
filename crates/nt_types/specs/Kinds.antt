-- Which Normative Type a type is (EPICS Normative Types 1.0): its id says so, and it has the members that must be
-- there.
use Rattle.std.specs.Prelude.{ℕ, ◌==◌, Bool, true, false, ◌&&◌, List, length, codes, Option, None, Some, if◌then◌else◌}
use Rattle.std.specs.Option.{option_and_then}
use Rattle.std.specs.Str.{bytes_eq}
use Rattle.pvd_type.specs.Same.{same_scalar, same_tree}
use Rattle.pvd_type.specs.Tree.{Tree, leaf, node, plain, bound_text, list, struct, Fields, no_fields, field}
use Rattle.pvd_type.specs.declared.shape.Scalar.TheVariants.{I32, Text}
use Rattle.nt_types.specs.Types.{scalar}
use Rattle.nt_types.specs.declared.kind.NtKind.{NtKind}
use Rattle.nt_types.specs.declared.kind.NtKind.TheVariants.{NtScalar, NtScalarArray, NtEnum, NtTable, NtUri}

-- the member of this name
abbrev pub member_named : List ℕ → Fields → Option Tree
member_named name no_fields = None
member_named name (field other t fs) = if bytes_eq other name then Some t else member_named name fs

-- whether a tree is there and passes
abbrev pub some_tree : (Tree → Bool) → Option Tree → Bool
some_tree test None = false
some_tree test (Some t) = test t

-- a scalar; a text with a bound is one
abbrev pub is_scalar : Tree → Bool
is_scalar (leaf (plain s)) = true
is_scalar (leaf (bound_text n)) = true
is_scalar _ = false

-- a text, with a bound or without one
abbrev pub is_text : Tree → Bool
is_text (leaf (plain s)) = same_scalar s Text
is_text (leaf (bound_text n)) = true
is_text _ = false

-- a list of scalars, of texts: of any number, of at most so many, or of so many
abbrev pub is_list : Tree → Bool
is_list (leaf (list s e)) = true
is_list _ = false

abbrev pub is_texts : Tree → Bool
is_texts (leaf (list s e)) = same_scalar s Text
is_texts _ = false

-- the structure `enum_t`: an index and the choices that it is of
abbrev pub is_choice : Tree → Bool
is_choice (node struct id (field m t (field n u no_fields))) =
    bytes_eq id (codes "enum_t")
    && (bytes_eq m (codes "index") && (same_tree t (scalar I32) && (bytes_eq n (codes "choices") && is_texts u)))
is_choice _ = false

abbrev pub all_lists : Fields → Bool
all_lists no_fields = true
all_lists (field name t fs) = is_list t && all_lists fs

-- a structure of lists, which has no id
abbrev pub is_columns : Tree → Bool
is_columns (node struct id fs) = (length id == 0) && all_lists fs
is_columns _ = false

-- the members that a type of this kind must have
abbrev pub has_members : NtKind → Fields → Bool
has_members NtScalar fs = some_tree is_scalar (member_named (codes "value") fs)
has_members NtScalarArray fs = some_tree is_list (member_named (codes "value") fs)
has_members NtEnum fs = some_tree is_choice (member_named (codes "value") fs)
has_members NtTable fs =
    some_tree is_texts (member_named (codes "labels") fs)
    && some_tree is_columns (member_named (codes "value") fs)
has_members NtUri fs =
    some_tree is_text (member_named (codes "scheme") fs)
    && some_tree is_text (member_named (codes "path") fs)

-- the kind that an id names
abbrev pub kind_with_id : List ℕ → Option NtKind
kind_with_id id =
    if bytes_eq (codes "epics:nt/NTScalar:1.0") id then Some NtScalar else (
    if bytes_eq (codes "epics:nt/NTScalarArray:1.0") id then Some NtScalarArray else (
    if bytes_eq (codes "epics:nt/NTEnum:1.0") id then Some NtEnum else (
    if bytes_eq (codes "epics:nt/NTTable:1.0") id then Some NtTable else (
    if bytes_eq (codes "epics:nt/NTURI:1.0") id then Some NtUri else None))))

-- the kind of a type, if it is one of the five
abbrev pub recognised : Tree → Option NtKind
recognised (node struct id fs) =
    option_and_then (λ kind. if has_members kind fs then Some kind else None) (kind_with_id id)
recognised _ = None
