-- Processing keeps a record's states valid.
use Rattle.std.proofs.Common.{◌≡◌, ℤ, Bool, true, false, ◌&&◌, int_lt, Option, None, Some, if◌then◌else◌, refl}
use Rattle.std.proofs.lemmas.Bool.{false≢true}
use Rattle.rec_kinds.specs.Configs.{Config}
use Rattle.rec_kinds.specs.Moments.{Instant}
use Rattle.rec_kinds.specs.Sorts.{Sort, number, index, text, numbers, texts, is_of, within, sort_of}
use Rattle.rec_kinds.specs.Processing.{processed, clamped}
use Rattle.rec_kinds.specs.Validity.{IsValid, MayBeDone, own_refusal, drive_fits}
use Rattle.rec_kinds.specs.declared.datum.Datum.{Datum}
use Rattle.rec_kinds.specs.declared.datum.Datum.TheVariants.{Num, Index, Text, Nums, Texts}
use Rattle.rec_kinds.specs.declared.datum.Action.{Action}
use Rattle.rec_kinds.specs.declared.datum.Action.TheVariants.{Put, Process}
use Rattle.rec_kinds.specs.declared.put.PutRefusal.{PutRefusal}
use Rattle.rec_kinds.specs.declared.put.PutRefusal.TheVariants.{Disabled}
use Rattle.rec_kinds.specs.declared.state.RecState.{RecState}

-- one of three answers passes where each does
one_of : (test : ℤ → Bool) (a b c : Bool) (x y z : ℤ) → test x ≡ true → test y ≡ true → test z ≡ true →
    test (if a then (if b then x else (if c then y else z)) else z) ≡ true
one_of test true true c x y z p q r = p
one_of test true false true x y z p q r = q
one_of test true false false x y z p q r = r
one_of test false b c x y z p q r = r

first : (a b : Bool) → (a && b) ≡ true → a ≡ true
first true b h = refl
first false b h = absurd (false≢true h)

second : (a b : Bool) → (a && b) ≡ true → b ≡ true
second true b h = h
second false b h = absurd (false≢true h)

-- what a put sets is of the datum's sort
clamped_suits : (config : Config) (sort : Sort) (datum : Datum) →
    drive_fits config sort ≡ true → is_of sort datum ≡ true →
    is_of sort (clamped config datum) ≡ true
clamped_suits config (number low high) (Num n) fits h =
    one_of (within low high) (int_lt config.drvl config.drvh) (int_lt n config.drvl) (int_lt config.drvh n)
    config.drvl config.drvh n
    (first (within low high config.drvl) (within low high config.drvh) fits)
    (second (within low high config.drvl) (within low high config.drvh) fits) h
clamped_suits config index (Num n) fits h = absurd (false≢true h)
clamped_suits config text (Num n) fits h = absurd (false≢true h)
clamped_suits config (numbers low high) (Num n) fits h = absurd (false≢true h)
clamped_suits config texts (Num n) fits h = absurd (false≢true h)
clamped_suits config sort (Index i) fits h = h
clamped_suits config sort (Text t) fits h = h
clamped_suits config sort (Nums ns) fits h = h
clamped_suits config sort (Texts ts) fits h = h

clamped_taken : (config : Config) (datum : Datum) →
    own_refusal config datum ≡ None → own_refusal config (clamped config datum) ≡ None
clamped_taken config (Num n) h = refl
clamped_taken config (Index i) h = h
clamped_taken config (Text t) h = h
clamped_taken config (Nums ns) h = h
clamped_taken config (Texts ts) h = h

-- what isn't refused isn't refused by the datum
own : (disabled : Bool) (r : Option PutRefusal) → (if disabled then Some Disabled else r) ≡ None → r ≡ None
own true r h = absurd (cc)
own false r h = h

pub valid_after : (config : Config) (old : RecState) (action : Action) (moment : Instant) (drove : Bool) →
    IsValid config old → MayBeDone config action → IsValid config (processed config old action moment drove)
valid_after config old (Put datum) moment drove valid may = record {
  sort = clamped_suits config (sort_of config.kind config.ftvl) datum valid.drive may.sort;
  taken = clamped_taken config datum (own config.disabled (own_refusal config datum) may.taken);
  drive = valid.drive;
}
valid_after config old Process moment drove valid may =
    record { sort = valid.sort; taken = valid.taken; drive = valid.drive }
