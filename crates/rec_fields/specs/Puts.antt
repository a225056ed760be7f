-- What a put of a value with marked leaves does.
use Rattle.std.specs.Prelude.{ℕ, ℤ, pos, negsuc, ◌≡◌, ⊤, nat_lt, map, Option, None, Some, Result, Ok, Err, if◌then◌else◌}
use Rattle.std.specs.Option.{option_and_then}
use Rattle.std.specs.FinSet.{FinSet, contains}
use Rattle.std.specs.Ordering.{nat_cmp}
use Rattle.pvd_value.specs.Data.{Data, Single, Many, Row, int, long, text, bytes, shorts, ints, longs, ubytes, ushorts, uints, ulongs, texts, single, many, members, more}
use Rattle.rec_kinds.specs.Configs.{Config}
use Rattle.rec_kinds.specs.Validity.{refusal}
use Rattle.rec_kinds.specs.declared.kind.Kind.{Kind}
use Rattle.rec_kinds.specs.declared.kind.Kind.TheVariants.{Bi, Bo, Mbbi, Mbbo}
use Rattle.rec_kinds.specs.declared.datum.Datum.{Datum}
use Rattle.rec_kinds.specs.declared.datum.Datum.TheVariants.{Num, Index, Text, Nums, Texts}
use Rattle.rec_kinds.specs.declared.datum.Action.{Action}
use Rattle.rec_kinds.specs.declared.datum.Action.TheVariants.{Put}
use Rattle.rec_kinds.specs.declared.put.PutRefusal.{PutRefusal}
use Rattle.rec_kinds.specs.declared.put.PutRefusal.TheVariants.{IndexOutside, Disabled, NothingWritable}
use Rattle.rec_fields.specs.declared.puts.FieldAnswer.{FieldAnswer}
use Rattle.rec_fields.specs.declared.puts.FieldAnswer.TheVariants.{Refused, NoMemory}

-- the number of the leaf that is put: `value`, or `value.index`
abbrev pub value_leaf : Kind → ℕ
value_leaf Bi = 2
value_leaf Bo = 2
value_leaf Mbbi = 2
value_leaf Mbbo = 2
value_leaf _ = 1

-- an index, where it is one of 16 bits
abbrev pub index_of : ℤ → Option Datum
index_of (pos n) = if nat_lt n 65536 then Some (Index n) else None
index_of (negsuc n) = None

abbrev pub single_datum : Single → Option Datum
single_datum (int n) = Some (Num n)
single_datum (long n) = Some (Num n)
single_datum (text t) = Some (Text t)
single_datum _ = None

abbrev pub many_datum : Many → Option Datum
many_datum (bytes ns) = Some (Nums ns)
many_datum (ubytes ns) = Some (Nums (map (λ n. pos n) ns))
many_datum (shorts ns) = Some (Nums ns)
many_datum (ushorts ns) = Some (Nums (map (λ n. pos n) ns))
many_datum (ints ns) = Some (Nums ns)
many_datum (uints ns) = Some (Nums (map (λ n. pos n) ns))
many_datum (longs ns) = Some (Nums ns)
many_datum (ulongs ns) = Some (Nums (map (λ n. pos n) ns))
many_datum (texts ts) = Some (Texts ts)
many_datum _ = None

abbrev pub int_in : Data → Option ℤ
int_in (single (int n)) = Some n
int_in _ = None

abbrev pub first_int : Row → Option ℤ
first_int (more v vs) = int_in v
first_int _ = None

-- the datum that a value brings: a structure brings the index that stands first in it
abbrev pub datum_in : Data → Option Datum
datum_in (single x) = single_datum x
datum_in (many xs) = many_datum xs
datum_in (members vs) = option_and_then index_of (first_int vs)
datum_in _ = None

-- the value of a record's structure
abbrev pub value_in : Data → Data
value_in (members (more v vs)) = v
value_in v = v

-- an index outside 16 bits is none of the choices
abbrev pub outside : Config → FieldAnswer
outside config = Refused (if config.disabled then Disabled else IndexOutside)

abbrev pub taken_unless : Option PutRefusal → Datum → Result Action FieldAnswer
taken_unless None datum = Ok (Put datum)
taken_unless (Some r) datum = Err (Refused r)

abbrev pub put_of : Config → Option Datum → Result Action FieldAnswer
put_of config None = Err (outside config)
put_of config (Some datum) = taken_unless (refusal config datum) datum

-- What a put does: nothing where the value's leaf isn't marked; else the record is put the value, if it takes it.
abbrev pub action_for : Config → Data → FinSet nat_cmp → Result Action FieldAnswer
action_for config value mask =
    if contains mask (value_leaf config.kind) then put_of config (datum_in (value_in value))
    else Err (Refused NothingWritable)

-- what an answer says: memory ran out, or this is what the put does
abbrev pub IsAction : Config → Data → FinSet nat_cmp → Result Action FieldAnswer → Type 0
IsAction config value mask (Err NoMemory) = ⊤
IsAction config value mask answer = action_for config value mask ≡ answer
