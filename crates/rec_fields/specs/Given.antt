-- Of which sort the data are that values bring.
use Rattle.pvd_type.specs.declared.shape.Scalar.{Scalar}
use Rattle.pvd_type.specs.declared.shape.Scalar.TheVariants as scalars
use Rattle.pvd_value.specs.Data.{Data, single, many, members}
use Rattle.pvd_value.specs.Fits.{scalar_of, element_of}
use Rattle.rec_kinds.specs.Ranges.{int8, uint8, int16, uint16, int32, uint32, int64, uint64}
use Rattle.rec_kinds.specs.Sorts.{Sort, number, index, text, numbers, texts}

abbrev pub single_sort : Scalar → Sort
single_sort scalars.I32 = number int32.0 int32.1
single_sort scalars.I64 = number int64.0 int64.1
single_sort _ = text

abbrev pub many_sort : Scalar → Sort
many_sort scalars.I8 = numbers int8.0 int8.1
many_sort scalars.U8 = numbers uint8.0 uint8.1
many_sort scalars.I16 = numbers int16.0 int16.1
many_sort scalars.U16 = numbers uint16.0 uint16.1
many_sort scalars.I32 = numbers int32.0 int32.1
many_sort scalars.U32 = numbers uint32.0 uint32.1
many_sort scalars.I64 = numbers int64.0 int64.1
many_sort scalars.U64 = numbers uint64.0 uint64.1
many_sort _ = texts

-- the sort of the datum that a value brings
abbrev pub sort_in : Data → Sort
sort_in (single x) = single_sort (scalar_of x)
sort_in (many xs) = many_sort (element_of xs)
sort_in (members vs) = index
sort_in _ = text
