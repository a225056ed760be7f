-- What a text tells as the field VAL, and what a record may hold (EPICS record reference).
use Rattle.std.specs.Prelude.{◌≡◌, ℕ, ℤ, pos, negsuc, List, Option, None, Some}
use Rattle.std.specs.Option.{option_map, option_and_then}
use Rattle.rec_kinds.specs.Configs.{Config}
use Rattle.rec_kinds.specs.Numbers.{number_of}
use Rattle.rec_kinds.specs.Validity.{IsOfSort, own_refusal}
use Rattle.rec_kinds.specs.declared.kind.Kind.{Kind}
use Rattle.rec_kinds.specs.declared.kind.Kind.TheVariants.{Longin, Longout, Int64in, Int64out, Bi, Bo, Mbbi, Mbbo, Stringin, Stringout, Waveform}
use Rattle.rec_kinds.specs.declared.datum.Datum.{Datum}
use Rattle.rec_kinds.specs.declared.datum.Datum.TheVariants.{Num, Index, Text}

abbrev pub index_told : ℤ → Option Datum
index_told (pos n) = Some (Index n)
index_told (negsuc n) = None

-- the datum that a text tells a record of this kind: a number, an index, or the text itself
abbrev pub datum_told : Kind → List ℕ → Option Datum
datum_told Longin text = option_map Num (number_of text)
datum_told Longout text = option_map Num (number_of text)
datum_told Int64in text = option_map Num (number_of text)
datum_told Int64out text = option_map Num (number_of text)
datum_told Bi text = option_and_then index_told (number_of text)
datum_told Bo text = option_and_then index_told (number_of text)
datum_told Mbbi text = option_and_then index_told (number_of text)
datum_told Mbbo text = option_and_then index_told (number_of text)
datum_told Stringin text = Some (Text text)
datum_told Stringout text = Some (Text text)
datum_told Waveform text = None

-- The record may hold the datum.
pub record MayHold (config : Config) (datum : Datum) : Type 0 where
  pub sort : IsOfSort config datum
  pub taken : own_refusal config datum ≡ None

-- A datum is told, and the record may hold it.
abbrev pub MayBeTold : Config → Option Datum → Type 0
MayBeTold config None = ⊥
MayBeTold config (Some datum) = MayHold config datum
