-- Which states and puts suit a record (EPICS record reference).
use Rattle.std.specs.Prelude.{◌≡◌, ℕ, ⊤, Bool, true, ◌&&◌, ◌==◌, nat_lt, nat_le, List, length, Option, None, Some, Result, Ok, Err, if◌then◌else◌}
use Rattle.std.specs.List.{list_all}
use Rattle.rec_kinds.specs.Configs.{Config}
use Rattle.rec_kinds.specs.Ranges.{text_bytes, most_choices}
use Rattle.rec_kinds.specs.Sorts.{Sort, number, sort_of, within, suits}
use Rattle.rec_kinds.specs.declared.datum.Datum.{Datum}
use Rattle.rec_kinds.specs.declared.datum.Datum.TheVariants.{Num, Index, Text, Nums, Texts}
use Rattle.rec_kinds.specs.declared.datum.Action.{Action}
use Rattle.rec_kinds.specs.declared.datum.Action.TheVariants.{Put, Process}
use Rattle.rec_kinds.specs.declared.put.PutRefusal.{PutRefusal}
use Rattle.rec_kinds.specs.declared.put.PutRefusal.TheVariants.{IndexOutside, TextTooLong, TooManyElements, Disabled}
use Rattle.rec_kinds.specs.declared.state.RecState.{RecState}

abbrev pub IsOfSort : Config → Datum → Type 0
IsOfSort config datum = suits config datum ≡ true

-- how many indices there are: as many as choices, or sixteen where there are none
abbrev pub index_bound : List (List ℕ) → ℕ
index_bound choices = if length choices == 0 then most_choices else length choices

abbrev pub is_short : List ℕ → Bool
is_short text = nat_le (length text) text_bytes

abbrev pub refused_unless : Bool → PutRefusal → Option PutRefusal → Option PutRefusal
refused_unless good refusal next = if good then next else Some refusal

-- why a put of the datum is refused where puts aren't disabled
abbrev pub own_refusal : Config → Datum → Option PutRefusal
own_refusal config (Num n) = None
own_refusal config (Index i) = refused_unless (nat_lt i (index_bound config.choices)) IndexOutside None
own_refusal config (Text t) = refused_unless (is_short t) TextTooLong None
own_refusal config (Nums ns) = refused_unless (nat_le (length ns) config.nelm) TooManyElements None
own_refusal config (Texts ts) =
    refused_unless (list_all is_short ts) TextTooLong
    (refused_unless (nat_le (length ts) config.nelm) TooManyElements None)

-- why a put of the datum is refused
abbrev pub refusal : Config → Datum → Option PutRefusal
refusal config datum = if config.disabled then Some Disabled else own_refusal config datum

abbrev pub outcome_of : Option PutRefusal → Result (Unit {0}) PutRefusal
outcome_of None = Ok tt
outcome_of (Some r) = Err r

-- A put of the datum is allowed.
pub record IsAllowed (config : Config) (datum : Datum) : Type 0 where
  pub sort : IsOfSort config datum
  pub taken : refusal config datum ≡ None

-- The action may be done to the record.
abbrev pub MayBeDone : Config → Action → Type 0
MayBeDone config (Put datum) = IsAllowed config datum
MayBeDone config Process = ⊤

-- whether the limits of what is put are numbers of the record's sort
abbrev pub drive_fits : Config → Sort → Bool
drive_fits config (number low high) = within low high config.drvl && within low high config.drvh
drive_fits config _ = true

-- The state is one that the record may be in.
pub record IsValid (config : Config) (state : RecState) : Type 0 where
  pub sort : IsOfSort config state.datum
  pub taken : own_refusal config state.datum ≡ None
  pub drive : drive_fits config (sort_of config.kind config.ftvl) ≡ true
