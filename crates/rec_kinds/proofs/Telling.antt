-- The field VAL takes exactly the texts of what a record may hold.
use Rattle.std.proofs.Common.{◌≡◌, ◌↔◌, ℕ, ◌-◌, ◌<◌, ℤ, pos, negsuc, nat_lt, Bool, true, false, List, codes, Option, None, Some, if◌then◌else◌, refl, ap, sym, ◌∙◌, arith}
use Rattle.std.specs.Option.{option_map, option_and_then, is_some}
use Rattle.std.proofs.lemmas.Int.{ints}
use Rattle.std.proofs.lemmas.Bool.{false≢true}
use Rattle.std.proofs.lemmas.Bool.Decides.{nat_tests}
use Rattle.rec_kinds.specs.Building.{config_of, misread, unless}
use Rattle.rec_kinds.specs.Configs.{Config}
use Rattle.rec_kinds.specs.Fields.{rule_of}
use Rattle.rec_kinds.specs.Given.{choices_told}
use Rattle.rec_kinds.specs.Numbers.{number_of}
use Rattle.rec_kinds.specs.Ranges.{int32, int64}
use Rattle.rec_kinds.specs.Sorts.{number, index, text, within, is_of, sort_of}
use Rattle.rec_kinds.specs.Told.{index_told, datum_told, MayHold, MayBeTold}
use Rattle.rec_kinds.specs.Validity.{index_bound, is_short, refused_unless}
use Rattle.rec_kinds.specs.declared.kind.Kind.{Kind}
use Rattle.rec_kinds.specs.declared.kind.Kind.TheVariants.{Longin, Longout, Int64in, Int64out, Bi, Bo, Mbbi, Mbbo, Stringin, Stringout, Waveform}
use Rattle.rec_kinds.specs.declared.datum.Datum.TheVariants.{Num, Index, Text}
use Rattle.rec_kinds.specs.declared.fault.Cause.{Cause}
use Rattle.rec_kinds.specs.declared.fault.Cause.TheVariants as causes
use Rattle.rec_kinds.specs.declared.put.PutRefusal.{PutRefusal}
use Rattle.rec_kinds.specs.declared.put.PutRefusal.TheVariants.{IndexOutside, TextTooLong}
use Rattle.rec_kinds.specs.declared.record_text.FieldText.{FieldText}
use Rattle.rec_kinds.proofs.Built.{bound_some, taken}

faultless : (good : Bool) (cause : Cause) → good ≡ true → unless good cause ≡ None
faultless true cause h = refl
faultless false cause h = absurd (false≢true h)

good : (good : Bool) (cause : Cause) → unless good cause ≡ None → good ≡ true
good true cause h = refl
good false cause h = absurd (cc)

unrefused : (good : Bool) (r : PutRefusal) → refused_unless good r None ≡ None → good ≡ true
unrefused true r h = refl
unrefused false r h = absurd (cc)

kept : (b : Bool) (n : ℤ) → is_some (if b then Some n else None) ≡ b
kept true n = refl
kept false n = refl

-- whether a number is one of a range
abbrev in_range : ℤ → ℤ → Option ℤ → Bool
in_range low high o = is_some (option_and_then (λ n. if within low high n then Some n else None) o)

number_exact : (low high : ℤ) (config : Config) (o : Option ℤ) → sort_of config.kind config.ftvl ≡ number low high →
    (unless (in_range low high o) causes.Number ≡ None) ↔ MayBeTold config (option_map Num o)
number_exact low high config None is = ((λ h. absurd (cc)), (λ h. absurd h))
number_exact low high config (Some n) is = (there, back)
  where
    there : unless (in_range low high (Some n)) causes.Number ≡ None → MayHold config (Num n)
    there h = record {
      sort = ap (λ s. is_of s (Num n)) is ∙ (sym (kept (within low high n) n) ∙ good (in_range low high (Some n)) causes.Number h);
      taken = refl;
    }

    back : MayHold config (Num n) → unless (in_range low high (Some n)) causes.Number ≡ None
    back m =
        faultless (in_range low high (Some n)) causes.Number
        (kept (within low high n) n ∙ (sym (ap (λ s. is_of s (Num n)) is) ∙ m.sort))

below : (i bound : ℕ) → 0 < bound → within (pos 0) (pos (bound - 1)) (pos i) ≡ true → nat_lt i bound ≡ true
below i bound some h = grind (arith, ints, nat_tests)

within_bound : (i bound : ℕ) → 0 < bound → nat_lt i bound ≡ true → within (pos 0) (pos (bound - 1)) (pos i) ≡ true
within_bound i bound some h = grind (arith, ints, nat_tests)

index_exact : (config : Config) (bound : ℕ) (o : Option ℤ) → 0 < bound → index_bound config.choices ≡ bound →
    sort_of config.kind config.ftvl ≡ index →
    (unless (in_range (pos 0) (pos (bound - 1)) o) causes.Number ≡ None) ↔ MayBeTold config (option_and_then index_told o)
index_exact config bound None some same is = ((λ h. absurd (cc)), (λ h. absurd h))
index_exact config bound (Some (negsuc n)) some same is = ((λ h. absurd (cc)), (λ h. absurd h))
index_exact config bound (Some (pos i)) some same is = (there, back)
  where
    there : unless (in_range (pos 0) (pos (bound - 1)) (Some (pos i))) causes.Number ≡ None → MayHold config (Index i)
    there h = record {
      sort = ap (λ s. is_of s (Index i)) is;
      taken = taken (nat_lt i (index_bound config.choices)) IndexOutside
          (ap (nat_lt i) same
          ∙ below i bound some
          (sym (kept (within (pos 0) (pos (bound - 1)) (pos i)) (pos i)) ∙ good (in_range (pos 0) (pos (bound - 1)) (Some (pos i))) causes.Number h));
    }

    back : MayHold config (Index i) → unless (in_range (pos 0) (pos (bound - 1)) (Some (pos i))) causes.Number ≡ None
    back m =
        faultless (in_range (pos 0) (pos (bound - 1)) (Some (pos i))) causes.Number
        (kept (within (pos 0) (pos (bound - 1)) (pos i)) (pos i)
        ∙ within_bound i bound some (sym (ap (nat_lt i) same) ∙ unrefused (nat_lt i (index_bound config.choices)) IndexOutside m.taken))

text_exact : (config : Config) (t : List ℕ) → sort_of config.kind config.ftvl ≡ text →
    (unless (is_short t) causes.Length ≡ None) ↔ MayBeTold config (Some (Text t))
text_exact config t is = (there, back)
  where
    there : unless (is_short t) causes.Length ≡ None → MayHold config (Text t)
    there h = record {
      sort = ap (λ s. is_of s (Text t)) is;
      taken = taken (is_short t) TextTooLong (good (is_short t) causes.Length h);
    }

    back : MayHold config (Text t) → unless (is_short t) causes.Length ≡ None
    back m = faultless (is_short t) causes.Length (unrefused (is_short t) TextTooLong m.taken)

pub val_exact : (kind : Kind) (fields : List FieldText) (t : List ℕ) → is_some (rule_of kind (codes "VAL")) ≡ true →
    (misread kind fields t (rule_of kind (codes "VAL")) ≡ None) ↔ MayBeTold (config_of kind fields) (datum_told kind t)
val_exact Longin fields t h = number_exact int32.0 int32.1 (config_of Longin fields) (number_of t) refl
val_exact Longout fields t h = number_exact int32.0 int32.1 (config_of Longout fields) (number_of t) refl
val_exact Int64in fields t h = number_exact int64.0 int64.1 (config_of Int64in fields) (number_of t) refl
val_exact Int64out fields t h = number_exact int64.0 int64.1 (config_of Int64out fields) (number_of t) refl
val_exact Bi fields t h = index_exact (config_of Bi fields) 2 (number_of t) (omega arith) refl refl
val_exact Bo fields t h = index_exact (config_of Bo fields) 2 (number_of t) (omega arith) refl refl
val_exact Mbbi fields t h =
    index_exact (config_of Mbbi fields) (index_bound (choices_told Mbbi fields)) (number_of t) (bound_some (choices_told Mbbi fields)) refl refl
val_exact Mbbo fields t h =
    index_exact (config_of Mbbo fields) (index_bound (choices_told Mbbo fields)) (number_of t) (bound_some (choices_told Mbbo fields)) refl refl
val_exact Stringin fields t h = text_exact (config_of Stringin fields) t refl
val_exact Stringout fields t h = text_exact (config_of Stringout fields) t refl
val_exact Waveform fields t h = absurd (false≢true h)
