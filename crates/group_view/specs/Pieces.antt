-- What a member of a group shows of its record (QSRV manual, "Field mapping types").
use Rattle.std.specs.Prelude.{ℕ, pos, [], codes}
use Rattle.pvd_type.specs.Tree.{Tree, leaf, node, variant, struct, no_fields, field}
use Rattle.pvd_value.specs.Blank.{blank_of}
use Rattle.pvd_value.specs.Data.{Data, int, texts, single, many, carried, members, end, more}
use Rattle.nt_types.specs.Types.{alarm_tree, time_tree}
use Rattle.rec_kinds.specs.Configs.{Config}
use Rattle.rec_kinds.specs.declared.datum.Datum.{Datum}
use Rattle.rec_kinds.specs.declared.datum.Datum.TheVariants.{Index, Nums, Texts}
use Rattle.rec_kinds.specs.declared.kind.Kind.{Kind}
use Rattle.rec_kinds.specs.declared.kind.Kind.TheVariants.{Bi, Bo, Mbbi, Mbbo}
use Rattle.rec_kinds.specs.declared.state.RecState.{RecState}
use Rattle.rec_fields.specs.Plain.{plain_tree, plain_shown}
use Rattle.rec_fields.specs.Shown.{shown, alarm_shown, time_shown}
use Rattle.rec_fields.specs.Types.{record_tree}
use Rattle.group_view.specs.declared.piece.Piece.{Piece}
use Rattle.group_view.specs.declared.piece.Piece.TheVariants as pieces

-- an alarm and a time stamp, in a structure without an id
abbrev pub meta_tree : Tree
meta_tree = node struct [] (field (codes "alarm") alarm_tree (field (codes "timeStamp") time_tree no_fields))

abbrev pub meta_shown : RecState → Data
meta_shown state = members (more (alarm_shown state) (more (time_shown state) end))

-- The type of what is shown of a record,
abbrev pub piece_tree : Piece → Config → Tree
piece_tree pieces.Whole config = record_tree config
piece_tree pieces.Plain config = plain_tree config
piece_tree pieces.Any config = leaf variant
piece_tree pieces.Meta config = meta_tree
piece_tree pieces.Alarm config = alarm_tree
piece_tree pieces.Time config = time_tree

-- and what is shown of a state. A variant holds the value by itself, with its type.
abbrev pub piece_shown : Piece → Config → RecState → Data
piece_shown pieces.Whole config state = shown config state
piece_shown pieces.Plain config state = plain_shown config state.datum
piece_shown pieces.Any config state = carried (plain_tree config) (plain_shown config state.datum)
piece_shown pieces.Meta config state = meta_shown state
piece_shown pieces.Alarm config state = alarm_shown state
piece_shown pieces.Time config state = time_shown state

-- The number of the list in a record's structure: the elements of a waveform, or the choices of an index; else the value's.
abbrev pub list_number : Kind → ℕ
list_number Bi = 3
list_number Bo = 3
list_number Mbbi = 3
list_number Mbbo = 3
list_number kind = 1

-- What a record's structure has as its value, with an empty list in place of its own.
abbrev pub value_without_list : Config → Datum → Data
value_without_list config (Index i) = members (more (single (int (pos i))) (more (many (texts [])) end))
value_without_list config (Nums ns) = blank_of (plain_tree config)
value_without_list config (Texts ts) = blank_of (plain_tree config)
value_without_list config datum = plain_shown config datum
