-- What a link moves into a record (EPICS record reference, "Database Links").
use Rattle.std.specs.Prelude.{ℤ, pos, Option, Some, None, if◌then◌else◌}
use Rattle.std.specs.Option.{option_and_then, option_map, is_some}
use Rattle.rec_kinds.specs.Configs.{Config}
use Rattle.rec_kinds.specs.Ranges.{Range, uint16}
use Rattle.rec_kinds.specs.Sorts.{Sort, number, index, text, numbers, texts, sort_of, within}
use Rattle.rec_kinds.specs.Texts.{text_of_datum}
use Rattle.rec_kinds.specs.Told.{index_told}
use Rattle.rec_kinds.specs.Validity.{refusal}
use Rattle.rec_kinds.specs.declared.datum.Datum.{Datum}
use Rattle.rec_kinds.specs.declared.datum.Datum.TheVariants.{Num, Index, Text}

-- the number that a number or an index is
abbrev pub number_in : Datum → Option ℤ
number_in (Num n) = Some n
number_in (Index i) = Some (pos i)
number_in _ = None

-- a number of a range, and none outside
abbrev pub ranged : Range → ℤ → Option ℤ
ranged range n = if within range.0 range.1 n then Some n else None

-- a number or an index in decimal, and a text as it is
abbrev pub text_in : Datum → Option Datum
text_in (Num n) = Some (Text (text_of_datum (Num n)))
text_in (Index i) = Some (Text (text_of_datum (Index i)))
text_in (Text t) = Some (Text t)
text_in _ = None

-- what a datum is as one of this sort
abbrev pub as_sort : Sort → Datum → Option Datum
as_sort (number low high) datum = option_map Num (option_and_then (ranged (low, high)) (number_in datum))
as_sort index datum = option_and_then index_told (option_and_then (ranged uint16) (number_in datum))
as_sort text datum = text_in datum
as_sort (numbers low high) datum = None
as_sort texts datum = None

-- a datum, and none where a put of it is refused
abbrev pub unless_refused : Config → Datum → Option Datum
unless_refused config datum = if is_some (refusal config datum) then None else Some datum

-- What a link moves of this datum into a record. It clips nothing: what the record can't take doesn't move.
abbrev pub converted : Config → Datum → Option Datum
converted config datum = option_and_then (unless_refused config) (as_sort (sort_of config.kind config.ftvl) datum)
