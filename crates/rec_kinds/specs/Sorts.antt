-- Which data a record may hold (EPICS record reference).
use Rattle.std.specs.Prelude.{ℤ, Bool, true, false, ◌&&◌, int_le}
use Rattle.std.specs.List.{list_all}
use Rattle.rec_kinds.specs.Configs.{Config}
use Rattle.rec_kinds.specs.Ranges.{int8, uint8, int16, uint16, int32, uint32, int64, uint64}
use Rattle.rec_kinds.specs.declared.kind.Kind.{Kind}
use Rattle.rec_kinds.specs.declared.kind.Kind.TheVariants.{Longin, Longout, Int64in, Int64out, Bi, Bo, Mbbi, Mbbo, Stringin, Stringout, Waveform}
use Rattle.rec_kinds.specs.declared.element.Element.{Element}
use Rattle.rec_kinds.specs.declared.element.Element.TheVariants as elements
use Rattle.rec_kinds.specs.declared.datum.Datum.{Datum}
use Rattle.rec_kinds.specs.declared.datum.Datum.TheVariants.{Num, Index, Text, Nums, Texts}

-- a number, and numbers in a row, from one number to another; an index; a text; texts in a row
pub data Sort : Type 0 where
  number : ℤ → ℤ → Sort
  index : Sort
  text : Sort
  numbers : ℤ → ℤ → Sort
  texts : Sort

abbrev pub element_sort : Element → Sort
element_sort elements.Text = texts
element_sort elements.I8 = numbers int8.0 int8.1
element_sort elements.U8 = numbers uint8.0 uint8.1
element_sort elements.I16 = numbers int16.0 int16.1
element_sort elements.U16 = numbers uint16.0 uint16.1
element_sort elements.I32 = numbers int32.0 int32.1
element_sort elements.U32 = numbers uint32.0 uint32.1
element_sort elements.I64 = numbers int64.0 int64.1
element_sort elements.U64 = numbers uint64.0 uint64.1

-- the sort of what a record of the kind holds, a list with elements of this type
abbrev pub sort_of : Kind → Element → Sort
sort_of Longin ftvl = number int32.0 int32.1
sort_of Longout ftvl = number int32.0 int32.1
sort_of Int64in ftvl = number int64.0 int64.1
sort_of Int64out ftvl = number int64.0 int64.1
sort_of Bi ftvl = index
sort_of Bo ftvl = index
sort_of Mbbi ftvl = index
sort_of Mbbo ftvl = index
sort_of Stringin ftvl = text
sort_of Stringout ftvl = text
sort_of Waveform ftvl = element_sort ftvl

abbrev pub within : ℤ → ℤ → ℤ → Bool
within low high n = int_le low n && int_le n high

abbrev pub is_of : Sort → Datum → Bool
is_of (number low high) (Num n) = within low high n
is_of index (Index i) = true
is_of text (Text t) = true
is_of (numbers low high) (Nums ns) = list_all (within low high) ns
is_of texts (Texts ts) = true
is_of _ _ = false

-- whether the datum is of the record's sort
abbrev pub suits : Config → Datum → Bool
suits config datum = is_of (sort_of config.kind config.ftvl) datum
