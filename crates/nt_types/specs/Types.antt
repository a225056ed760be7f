-- The Normative Types as trees (EPICS Normative Types 1.0).
use Rattle.std.specs.Prelude.{ℕ, List, [], ◌∷◌, codes}
use Rattle.pvd_type.specs.Tree.{Tree, leaf, node, plain, list, struct, Fields, no_fields, field}
use Rattle.pvd_type.specs.declared.shape.Scalar.{Scalar}
use Rattle.pvd_type.specs.declared.shape.Scalar.TheVariants.{I32, I64, Text}
use Rattle.pvd_type.specs.declared.shape.Extent.TheVariants.{Variable}

-- a scalar, and a list of any number of scalars
abbrev pub scalar : Scalar → Tree
scalar s = leaf (plain s)

abbrev pub list_of : Scalar → Tree
list_of s = leaf (list s Variable)

-- "alarm_t"
abbrev pub alarm_tree : Tree
alarm_tree =
    node struct (codes "alarm_t")
    (field (codes "severity") (scalar I32) (field (codes "status") (scalar I32)
    (field (codes "message") (scalar Text) no_fields)))

-- "time_t"
abbrev pub time_tree : Tree
time_tree =
    node struct (codes "time_t")
    (field (codes "secondsPastEpoch") (scalar I64) (field (codes "nanoseconds") (scalar I32)
    (field (codes "userTag") (scalar I32) no_fields)))

-- "enum_t"
abbrev pub enum_value : Tree
enum_value =
    node struct (codes "enum_t") (field (codes "index") (scalar I32) (field (codes "choices") (list_of Text) no_fields))

-- a value with its alarm and its time stamp
abbrev pub with_meta : List ℕ → Tree → Tree
with_meta id value =
    node struct id (field (codes "value") value
    (field (codes "alarm") alarm_tree (field (codes "timeStamp") time_tree no_fields)))

abbrev pub scalar_tree : Scalar → Tree
scalar_tree s = with_meta (codes "epics:nt/NTScalar:1.0") (scalar s)

abbrev pub scalar_array_tree : Scalar → Tree
scalar_array_tree s = with_meta (codes "epics:nt/NTScalarArray:1.0") (list_of s)

abbrev pub enum_tree : Tree
enum_tree = with_meta (codes "epics:nt/NTEnum:1.0") enum_value

-- fields with a member more behind them
abbrev pub at_end : Fields → List ℕ × Tree → Fields
at_end no_fields m = field m.0 m.1 no_fields
at_end (field name t fs) m = field name t (at_end fs m)

-- a member for each name, of a shape for its scalar
abbrev pub fields_by : (Scalar → Tree) → List (List ℕ × Scalar) → Fields
fields_by shape [] = no_fields
fields_by shape (c ∷ cs) = field c.0 (shape c.1) (fields_by shape cs)

abbrev pub table_tree : List (List ℕ × Scalar) → Tree
table_tree columns =
    node struct (codes "epics:nt/NTTable:1.0")
    (field (codes "labels") (list_of Text)
    (field (codes "value") (node struct [] (fields_by list_of columns)) no_fields))

abbrev pub uri_tree : List (List ℕ × Scalar) → Tree
uri_tree query =
    node struct (codes "epics:nt/NTURI:1.0")
    (field (codes "scheme") (scalar Text) (field (codes "path") (scalar Text)
    (field (codes "query") (node struct [] (fields_by scalar query)) no_fields)))
