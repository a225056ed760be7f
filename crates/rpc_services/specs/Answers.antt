-- What the service answers: types, and values of them.
use Rattle.std.specs.Prelude.{ℕ, ◌-◌, ◌^◌, ℤ, pos, min, List, [], ◌∷◌, map, codes}
use Rattle.pvd_type.specs.Tree.{Tree, node, struct, no_fields, field}
use Rattle.pvd_type.specs.declared.shape.Scalar.{Scalar}
use Rattle.pvd_type.specs.declared.shape.Scalar.TheVariants.{I32, I64, Text}
use Rattle.nt_types.specs.Types.{scalar, list_of, table_tree}
use Rattle.pvd_value.specs.Data.{Data, int, text, ints, longs, texts, single, many, members}
use Rattle.pvd_value.specs.View.{row_of}

-- Names of channels: an NTScalarArray with the field value alone (EPICS Normative Types 1.0, "NTScalarArray").
abbrev pub channels_tree : Tree
channels_tree = node struct (codes "epics:nt/NTScalarArray:1.0") (field (codes "value") (list_of Text) no_fields)

abbrev pub channels_data : List (List ℕ) → Data
channels_data names = members (row_of (many (texts names) ∷ []))

-- The version of the service, and what the server has of records and groups.
abbrev pub info_tree : Tree
info_tree =
    node struct []
    (field (codes "version") (scalar Text)
    (field (codes "records") (scalar I32) (field (codes "groups") (scalar I32) no_fields)))

-- a count as an int, and the greatest int for a greater count
abbrev pub count_shown : ℕ → ℤ
count_shown n = pos (min n (2 ^ 31 - 1))

abbrev pub info_data : ℕ → ℕ → Data
info_data records groups =
    members (row_of (
    single (text (codes "1")) ∷ single (int (count_shown records)) ∷ single (int (count_shown groups)) ∷ []))

-- A row for each record: an NTTable with these columns, whose names are the labels (EPICS Normative Types 1.0,
-- "NTTable").
abbrev pub columns : List (List ℕ × Scalar)
columns =
    (codes "name", Text) ∷ (codes "value", Text) ∷ (codes "severity", I32)
    ∷ (codes "secondsPastEpoch", I64) ∷ (codes "nanoseconds", I32) ∷ []

abbrev pub labels : List (List ℕ)
labels = map (λ c. c.0) columns

abbrev pub snapshot_tree : Tree
snapshot_tree = table_tree columns

abbrev pub rows_data : List (List ℕ) → List (List ℕ) → List ℤ → List ℤ → List ℤ → Data
rows_data names values severities seconds nanoseconds =
    members (row_of (
    many (texts names) ∷ many (texts values) ∷ many (ints severities)
    ∷ many (longs seconds) ∷ many (ints nanoseconds) ∷ []))

abbrev pub snapshot_data : List (List ℕ) → List (List ℕ) → List ℤ → List ℤ → List ℤ → Data
snapshot_data names values severities seconds nanoseconds =
    members (row_of (many (texts labels) ∷ rows_data names values severities seconds nanoseconds ∷ []))
