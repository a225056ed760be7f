-- What a record shows of a state: its value, its alarm and its time stamp (EPICS Normative Types 1.0).
use Rattle.std.specs.Prelude.{ℕ, ℤ, pos, unsigned_abs, List, [], map}
use Rattle.pvd_value.specs.Data.{Data, Single, int, long, text, Many, bytes, shorts, ints, longs, ubytes, ushorts, uints, ulongs, texts, single, many, members, end, more}
use Rattle.rec_kinds.specs.Configs.{Config}
use Rattle.rec_kinds.specs.Severities.{severity_number, status_number}
use Rattle.rec_kinds.specs.declared.kind.Kind.{Kind}
use Rattle.rec_kinds.specs.declared.kind.Kind.TheVariants.{Int64in, Int64out}
use Rattle.rec_kinds.specs.declared.element.Element.{Element}
use Rattle.rec_kinds.specs.declared.element.Element.TheVariants as elements
use Rattle.rec_kinds.specs.declared.datum.Datum.{Datum}
use Rattle.rec_kinds.specs.declared.datum.Datum.TheVariants.{Num, Index, Text, Nums, Texts}
use Rattle.rec_kinds.specs.declared.state.RecState.{RecState}

abbrev pub three : Data → Data → Data → Data
three a b c = members (more a (more b (more c end)))

-- a number, of 64 bits where the record's are
abbrev pub number_shown : Kind → ℤ → Single
number_shown Int64in n = long n
number_shown Int64out n = long n
number_shown _ n = int n

abbrev pub numbers_shown : Element → List ℤ → Many
numbers_shown elements.I8 ns = bytes ns
numbers_shown elements.U8 ns = ubytes (map unsigned_abs ns)
numbers_shown elements.I16 ns = shorts ns
numbers_shown elements.U16 ns = ushorts (map unsigned_abs ns)
numbers_shown elements.I32 ns = ints ns
numbers_shown elements.U32 ns = uints (map unsigned_abs ns)
numbers_shown elements.I64 ns = longs ns
numbers_shown elements.U64 ns = ulongs (map unsigned_abs ns)
numbers_shown elements.Text ns = texts []

-- what a record of this kind holds, with these types of elements and these choices
abbrev pub datum_shown : Kind → Element → List (List ℕ) → Datum → Data
datum_shown kind ftvl choices (Num n) = single (number_shown kind n)
datum_shown kind ftvl choices (Index i) = members (more (single (int (pos i))) (more (many (texts choices)) end))
datum_shown kind ftvl choices (Text t) = single (text t)
datum_shown kind ftvl choices (Nums ns) = many (numbers_shown ftvl ns)
datum_shown kind ftvl choices (Texts ts) = many (texts ts)

abbrev pub value_shown : Config → Datum → Data
value_shown config datum = datum_shown config.kind config.ftvl config.choices datum

abbrev pub alarm_shown : RecState → Data
alarm_shown state =
    three (single (int (pos (severity_number state.severity))))
    (single (int (pos (status_number state.status)))) (single (text state.message))

abbrev pub time_shown : RecState → Data
time_shown state =
    three (single (long state.moment.seconds)) (single (int (pos state.moment.nanoseconds))) (single (int state.tag))

-- What a record shows of a state.
abbrev pub shown : Config → RecState → Data
shown config state = three (value_shown config state.datum) (alarm_shown state) (time_shown state)

-- What a record's description shows: its text, without an alarm, at time 0.
abbrev pub desc_shown : Config → Data
desc_shown config =
    three (single (text config.desc))
    (three (single (int (pos 0))) (single (int (pos 0))) (single (text [])))
    (three (single (long (pos 0))) (single (int (pos 0))) (single (int (pos 0))))
