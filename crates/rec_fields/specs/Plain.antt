-- A record's value by itself, without alarm and time stamp (QSRV manual, "Field mapping types", `plain`).
use Rattle.std.specs.Prelude.{pos, Option, List, ◌≡◌, ⊤, Result, Ok, Err}
use Rattle.std.specs.Option.{option_and_then}
use Rattle.pvd_type.specs.Tree.{Tree}
use Rattle.pvd_type.specs.declared.shape.Scalar.TheVariants.{I32, I64, Text}
use Rattle.pvd_value.specs.Data.{Data, int, single}
use Rattle.nt_types.specs.Types.{scalar, list_of}
use Rattle.rec_kinds.specs.Configs.{Config}
use Rattle.rec_kinds.specs.declared.kind.Kind.{Kind}
use Rattle.rec_kinds.specs.declared.kind.Kind.TheVariants.{Longin, Longout, Int64in, Int64out, Bi, Bo, Mbbi, Mbbo}
use Rattle.rec_kinds.specs.declared.kind.Kind.TheVariants.{Stringin, Stringout, Waveform}
use Rattle.rec_kinds.specs.declared.element.Element.{Element}
use Rattle.rec_kinds.specs.declared.datum.Action.{Action}
use Rattle.rec_kinds.specs.declared.datum.Datum.{Datum}
use Rattle.rec_kinds.specs.declared.datum.Datum.TheVariants.{Index}
use Rattle.rec_fields.specs.Puts.{put_of, datum_in, index_of, int_in}
use Rattle.rec_fields.specs.Shown.{value_shown}
use Rattle.rec_fields.specs.Types.{scalar_of}
use Rattle.rec_fields.specs.declared.puts.FieldAnswer.{FieldAnswer}
use Rattle.rec_fields.specs.declared.puts.FieldAnswer.TheVariants.{NoMemory}

-- the type of a record's value by itself: an index is an int
abbrev pub value_tree : Kind → Element → Tree
value_tree Longin ftvl = scalar I32
value_tree Longout ftvl = scalar I32
value_tree Int64in ftvl = scalar I64
value_tree Int64out ftvl = scalar I64
value_tree Bi ftvl = scalar I32
value_tree Bo ftvl = scalar I32
value_tree Mbbi ftvl = scalar I32
value_tree Mbbo ftvl = scalar I32
value_tree Stringin ftvl = scalar Text
value_tree Stringout ftvl = scalar Text
value_tree Waveform ftvl = list_of (scalar_of ftvl)

abbrev pub plain_tree : Config → Tree
plain_tree config = value_tree config.kind config.ftvl

-- a record's value by itself: an index without its choices
abbrev pub plain_shown : Config → Datum → Data
plain_shown config (Index i) = single (int (pos i))
plain_shown config datum = value_shown config datum

-- The datum that a record's value by itself brings, or the leaf of its structure that is put.
abbrev pub leaf_datum : Kind → Data → Option Datum
leaf_datum Bi leaf = option_and_then index_of (int_in leaf)
leaf_datum Bo leaf = option_and_then index_of (int_in leaf)
leaf_datum Mbbi leaf = option_and_then index_of (int_in leaf)
leaf_datum Mbbo leaf = option_and_then index_of (int_in leaf)
leaf_datum kind leaf = datum_in leaf

-- What a put of it does.
abbrev pub leaf_action : Config → Data → Result Action FieldAnswer
leaf_action config leaf = put_of config (leaf_datum config.kind leaf)

-- what an answer says: memory ran out, or this is what the put does
abbrev pub IsLeafAction : Config → Data → Result Action FieldAnswer → Type 0
IsLeafAction config leaf (Err NoMemory) = ⊤
IsLeafAction config leaf answer = leaf_action config leaf ≡ answer
