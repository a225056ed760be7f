-- What is built of fields without a fault is valid.
use Rattle.std.proofs.Common.{◌≡◌, ℕ, ◌-◌, ◌<◌, ℤ, pos, negsuc, unsigned_abs, nat_lt, nat_le, Bool, true, false, ◌&&◌, List, [], ◌∷◌, codes, Option, None, Some, option_map, if◌then◌else◌, refl, ap, sym, ◌∙◌, subst, arith, FitsSigned, w32}
use Rattle.std.specs.Option.{option_or, option_and_then, unwrap_or, is_some}
use Rattle.std.specs.Str.{bytes_eq}
use Rattle.std.proofs.lemmas.Int.{ints}
use Rattle.std.proofs.lemmas.Bool.{false≢true}
use Rattle.std.proofs.lemmas.Bool.Decides.{nat_tests}
use Rattle.std.proofs.lemmas.Slice.Eq.{bytes_eq-Decides}
use Rattle.rec_kinds.specs.Building.{config_of, opening_of, opening, empty_list, fault_of, fault, first_fault, build_fault, misread, unless}
use Rattle.rec_kinds.specs.Configs.{Config}
use Rattle.rec_kinds.specs.Fields.{rule_of}
use Rattle.rec_kinds.specs.Given.{text_of, choices_told, element_told}
use Rattle.rec_kinds.specs.Numbers.{number_of, number_in}
use Rattle.rec_kinds.specs.Ranges.{int32, int64, text_bytes}
use Rattle.rec_kinds.specs.Sorts.{within, is_of, element_sort}
use Rattle.rec_kinds.specs.Validity.{IsValid, index_bound, is_short, refused_unless, own_refusal, drive_fits}
use Rattle.rec_kinds.specs.declared.kind.Kind.{Kind}
use Rattle.rec_kinds.specs.declared.kind.Kind.TheVariants.{Longin, Longout, Int64in, Int64out, Bi, Bo, Mbbi, Mbbo, Stringin, Stringout, Waveform}
use Rattle.rec_kinds.specs.declared.datum.Datum.TheVariants.{Num}
use Rattle.rec_kinds.specs.declared.element.Element.{Element}
use Rattle.rec_kinds.specs.declared.element.Element.TheVariants as elements
use Rattle.rec_kinds.specs.declared.field.Rule.TheVariants.{Number, Index, Text}
use Rattle.rec_kinds.specs.declared.fault.Cause.{Cause}
use Rattle.rec_kinds.specs.declared.fault.Cause.TheVariants as causes
use Rattle.rec_kinds.specs.declared.put.PutRefusal.{PutRefusal}
use Rattle.rec_kinds.specs.declared.put.PutRefusal.TheVariants.{IndexOutside, TextTooLong, TooManyElements}
use Rattle.rec_kinds.specs.declared.state.RecState.{RecState}
use Rattle.rec_kinds.specs.declared.record_text.FieldText.{FieldText}

or_left : {A : Type 0} (a b : Option A) → option_or a b ≡ None → a ≡ None
or_left None b h = refl
or_left (Some x) b h = h

or_right : {A : Type 0} (a b : Option A) → option_or a b ≡ None → b ≡ None
or_right None b h = h
or_right (Some x) b h = absurd (cc)

unmapped : {A B : Type 0} (f : A → B) (o : Option A) → option_map f o ≡ None → o ≡ None
unmapped f None h = refl
unmapped f (Some x) h = absurd (cc)

pub unless_none : (good : Bool) (cause : Cause) → unless good cause ≡ None → good ≡ true
unless_none true cause h = refl
unless_none false cause h = absurd (cc)

-- where no field is at fault, the text that a field is given last isn't misread
pub no_fault : (kind : Kind) (all fs : List FieldText) (name t : List ℕ) → first_fault kind all fs ≡ None → text_of fs name ≡ Some t →
    misread kind all t (rule_of kind name) ≡ None
no_fault kind all [] name t h e = absurd (cc)
no_fault kind all (f ∷ fs) name t h e =
    by_later (text_of fs name) refl e
    (no_fault kind all fs name t
    (or_right (if is_some (text_of fs f.name) then None else fault_of kind all f) (first_fault kind all fs) h))
  where
    here : (is_some (text_of fs f.name)) ≡ false → misread kind all f.text (rule_of kind f.name) ≡ None
    here late =
        let first = or_left (if is_some (text_of fs f.name) then None else fault_of kind all f) (first_fault kind all fs) h in
        unmapped (fault f) (misread kind all f.text (rule_of kind f.name))
        (sym (ap (λ b. if b then None else fault_of kind all f) late) ∙ first)

    by_name : (b : Bool) → bytes_eq f.name name ≡ b → text_of fs name ≡ None → (if b then Some f.text else None) ≡ Some t →
        misread kind all t (rule_of kind name) ≡ None
    by_name true same none e =
        let n : f.name ≡ name = (bytes_eq-Decides f.name name).0 same in
        let x : f.text ≡ t = cc in
        let late : is_some (text_of fs f.name) ≡ false = ap (λ m. is_some (text_of fs m)) n ∙ ap is_some none in
        sym (ap (λ m. misread kind all f.text (rule_of kind m)) n ∙ ap (λ y. misread kind all y (rule_of kind name)) x) ∙ here late
    by_name false same none e = absurd (cc)

    by_later : (o : Option (List ℕ)) → text_of fs name ≡ o → option_or o (if bytes_eq f.name name then Some f.text else None) ≡ Some t →
        (text_of fs name ≡ Some t → misread kind all t (rule_of kind name) ≡ None) → misread kind all t (rule_of kind name) ≡ None
    by_later (Some x) is e again = again (is ∙ e)
    by_later None is e again = by_name (bytes_eq f.name name) refl is e

-- a number that is told stands in the range by which its text was judged
in_range : (low high wide_low wide_high other : ℤ) (m : Option ℤ) → within low high other ≡ true →
    is_some (option_and_then (λ n. if within low high n then Some n else None) m) ≡ true →
    within low high (unwrap_or (option_and_then (λ n. if within wide_low wide_high n then Some n else None) m) other) ≡ true
in_range low high wide_low wide_high other None fits h = fits
in_range low high wide_low wide_high other (Some n) fits h =
    either (within wide_low wide_high n) (judged (within low high n) h)
  where
    judged : (b : Bool) → is_some (if b then Some n else None) ≡ true → b ≡ true
    judged true h = refl
    judged false h = absurd (false≢true h)

    either : (b : Bool) → within low high n ≡ true → within low high (unwrap_or (if b then Some n else None) other) ≡ true
    either true k = k
    either false k = fits

told_number : (low high wide_low wide_high other : ℤ) (o : Option (List ℕ)) → within low high other ≡ true →
    ((t : List ℕ) → o ≡ Some t → is_some (number_in low high t) ≡ true) →
    within low high (unwrap_or (option_and_then (number_in wide_low wide_high) o) other) ≡ true
told_number low high wide_low wide_high other None fits h = fits
told_number low high wide_low wide_high other (Some t) fits h =
    in_range low high wide_low wide_high other (number_of t) fits (h t refl)

told_short : (o : Option (List ℕ)) → ((t : List ℕ) → o ≡ Some t → is_short t ≡ true) → is_short (unwrap_or o []) ≡ true
told_short None h = refl
told_short (Some t) h = h t refl

pub taken : (good : Bool) (r : PutRefusal) → good ≡ true → refused_unless good r None ≡ None
taken true r h = refl
taken false r h = absurd (false≢true h)

pub both : (a b : Bool) → a ≡ true → b ≡ true → (a && b) ≡ true
both a b h g = ap (λ x. x && b) h ∙ g

-- an index of a range that begins at 0
below_bound : (n : ℤ) (bound : ℕ) → 0 < bound → within (pos 0) (pos (bound - 1)) n ≡ true → nat_lt (unsigned_abs n) bound ≡ true
below_bound (pos m) bound some h = grind (arith, ints, nat_tests)
below_bound (negsuc m) bound some h = absurd (false≢true h)

pub bound_some : (choices : List (List ℕ)) → 0 < index_bound choices
bound_some [] = omega arith
bound_some (c ∷ cs) = grind (arith, nat_tests)

zero_fits : (bound : ℕ) → within (pos 0) (pos bound) (pos 0) ≡ true
zero_fits bound = grind (arith, ints, nat_tests)

abbrev pub low32 : ℤ
low32 = int32.0

abbrev pub high32 : ℤ
high32 = int32.1

abbrev pub lowest : ℤ
lowest = int64.0

abbrev pub highest : ℤ
highest = int64.1

list_suits : (e : Element) → is_of (element_sort e) (empty_list e) ≡ true
list_suits elements.Text = refl
list_suits elements.I8 = refl
list_suits elements.U8 = refl
list_suits elements.I16 = refl
list_suits elements.U16 = refl
list_suits elements.I32 = refl
list_suits elements.U32 = refl
list_suits elements.I64 = refl
list_suits elements.U64 = refl

no_more : (most : ℕ) → nat_le 0 most ≡ true
no_more most = grind (arith, nat_tests)

list_taken : (config : Config) (e : Element) → own_refusal config (empty_list e) ≡ None
list_taken config elements.Text = taken (nat_le 0 config.nelm) TooManyElements (no_more config.nelm)
list_taken config elements.I8 = taken (nat_le 0 config.nelm) TooManyElements (no_more config.nelm)
list_taken config elements.U8 = taken (nat_le 0 config.nelm) TooManyElements (no_more config.nelm)
list_taken config elements.I16 = taken (nat_le 0 config.nelm) TooManyElements (no_more config.nelm)
list_taken config elements.U16 = taken (nat_le 0 config.nelm) TooManyElements (no_more config.nelm)
list_taken config elements.I32 = taken (nat_le 0 config.nelm) TooManyElements (no_more config.nelm)
list_taken config elements.U32 = taken (nat_le 0 config.nelm) TooManyElements (no_more config.nelm)
list_taken config elements.I64 = taken (nat_le 0 config.nelm) TooManyElements (no_more config.nelm)
list_taken config elements.U64 = taken (nat_le 0 config.nelm) TooManyElements (no_more config.nelm)

list_drive : (config : Config) (e : Element) → drive_fits config (element_sort e) ≡ true
list_drive config elements.Text = refl
list_drive config elements.I8 = refl
list_drive config elements.U8 = refl
list_drive config elements.I16 = refl
list_drive config elements.U16 = refl
list_drive config elements.I32 = refl
list_drive config elements.U32 = refl
list_drive config elements.I64 = refl
list_drive config elements.U64 = refl

-- a field of a kind that has it, by its rule
pub numbered : (kind : Kind) (fields : List FieldText) (name : List ℕ) (low high : ℤ) → build_fault kind fields ≡ None →
    rule_of kind name ≡ Some (Number low high) → (t : List ℕ) → text_of fields name ≡ Some t → is_some (number_in low high t) ≡ true
numbered kind fields name low high h is t e =
    unless_none (is_some (number_in low high t)) causes.Number
    (sym (ap (misread kind fields t) is) ∙ no_fault kind fields fields name t h e)

indexed : (kind : Kind) (fields : List FieldText) (name : List ℕ) → build_fault kind fields ≡ None → rule_of kind name ≡ Some Index →
    (t : List ℕ) → text_of fields name ≡ Some t → is_some (number_in (pos 0) (pos (index_bound (choices_told kind fields) - 1)) t) ≡ true
indexed kind fields name h is t e =
    unless_none (is_some (number_in (pos 0) (pos (index_bound (choices_told kind fields) - 1)) t)) causes.Number
    (sym (ap (misread kind fields t) is) ∙ no_fault kind fields fields name t h e)

short : (kind : Kind) (fields : List FieldText) (name : List ℕ) → build_fault kind fields ≡ None → rule_of kind name ≡ Some (Text text_bytes) →
    (t : List ℕ) → text_of fields name ≡ Some t → is_short t ≡ true
short kind fields name h is t e =
    unless_none (is_short t) causes.Length (sym (ap (misread kind fields t) is) ∙ no_fault kind fields fields name t h e)

pub number_valid : (fields : List FieldText) (name : List ℕ) (low high : ℤ) → within low high (pos 0) ≡ true →
    ((t : List ℕ) → text_of fields name ≡ Some t → is_some (number_in low high t) ≡ true) →
    within low high (unwrap_or (option_and_then (number_in lowest highest) (text_of fields name)) (pos 0)) ≡ true
number_valid fields name low high nought ok = told_number low high lowest highest (pos 0) (text_of fields name) nought ok

index_taken : (fields : List FieldText) (bound : ℕ) → 0 < bound →
    ((t : List ℕ) → text_of fields (codes "VAL") ≡ Some t → is_some (number_in (pos 0) (pos (bound - 1)) t) ≡ true) →
    nat_lt (unsigned_abs (unwrap_or (option_and_then (number_in (pos 0) (pos 65535)) (text_of fields (codes "VAL"))) (pos 0))) bound ≡ true
index_taken fields bound some ok =
    below_bound (unwrap_or (option_and_then (number_in (pos 0) (pos 65535)) (text_of fields (codes "VAL"))) (pos 0)) bound some
    (told_number (pos 0) (pos (bound - 1)) (pos 0) (pos 65535) (pos 0) (text_of fields (codes "VAL")) (zero_fits (bound - 1)) ok)

pub built_valid : (kind : Kind) (fields : List FieldText) → build_fault kind fields ≡ None → IsValid (config_of kind fields) (opening_of kind fields)
built_valid Longin fields h = record {
  sort = number_valid fields (codes "VAL") low32 high32 refl (numbered Longin fields (codes "VAL") low32 high32 h refl);
  taken = refl;
  drive = refl;
}
built_valid Longout fields h = record {
  sort = number_valid fields (codes "VAL") low32 high32 refl (numbered Longout fields (codes "VAL") low32 high32 h refl);
  taken = refl;
  drive = both _ _
      (number_valid fields (codes "DRVL") low32 high32 refl (numbered Longout fields (codes "DRVL") low32 high32 h refl))
      (number_valid fields (codes "DRVH") low32 high32 refl (numbered Longout fields (codes "DRVH") low32 high32 h refl));
}
built_valid Int64in fields h = record {
  sort = number_valid fields (codes "VAL") lowest highest refl (numbered Int64in fields (codes "VAL") lowest highest h refl);
  taken = refl;
  drive = refl;
}
built_valid Int64out fields h = record {
  sort = number_valid fields (codes "VAL") lowest highest refl (numbered Int64out fields (codes "VAL") lowest highest h refl);
  taken = refl;
  drive = both _ _
      (number_valid fields (codes "DRVL") lowest highest refl (numbered Int64out fields (codes "DRVL") lowest highest h refl))
      (number_valid fields (codes "DRVH") lowest highest refl (numbered Int64out fields (codes "DRVH") lowest highest h refl));
}
built_valid Bi fields h = record {
  sort = refl;
  taken = taken _ IndexOutside (index_taken fields 2 (omega arith) (numbered Bi fields (codes "VAL") (pos 0) (pos 1) h refl));
  drive = refl;
}
built_valid Bo fields h = record {
  sort = refl;
  taken = taken _ IndexOutside (index_taken fields 2 (omega arith) (numbered Bo fields (codes "VAL") (pos 0) (pos 1) h refl));
  drive = refl;
}
built_valid Mbbi fields h = record {
  sort = refl;
  taken = taken _ IndexOutside
      (index_taken fields (index_bound (choices_told Mbbi fields)) (bound_some (choices_told Mbbi fields)) (indexed Mbbi fields (codes "VAL") h refl));
  drive = refl;
}
built_valid Mbbo fields h = record {
  sort = refl;
  taken = taken _ IndexOutside
      (index_taken fields (index_bound (choices_told Mbbo fields)) (bound_some (choices_told Mbbo fields)) (indexed Mbbo fields (codes "VAL") h refl));
  drive = refl;
}
built_valid Stringin fields h = record {
  sort = refl;
  taken = taken _ TextTooLong (told_short (text_of fields (codes "VAL")) (short Stringin fields (codes "VAL") h refl));
  drive = refl;
}
built_valid Stringout fields h = record {
  sort = refl;
  taken = taken _ TextTooLong (told_short (text_of fields (codes "VAL")) (short Stringout fields (codes "VAL") h refl));
  drive = refl;
}
built_valid Waveform fields h = record {
  sort = list_suits (element_told Waveform fields);
  taken = list_taken (config_of Waveform fields) (element_told Waveform fields);
  drive = list_drive (config_of Waveform fields) (element_told Waveform fields);
}

pub valid_at : (kind : Kind) (fields : List FieldText) (config : Config) (state : RecState) → build_fault kind fields ≡ None →
    config ≡ config_of kind fields → state ≡ opening_of kind fields → IsValid config state
valid_at kind fields config state h e f =
    subst (λ (c : Config). IsValid c state) (sym e) (subst (λ (s : RecState). IsValid (config_of kind fields) s) (sym f) (built_valid kind fields h))

int_fits : (n : ℤ) → FitsSigned w32 n → within low32 high32 n ≡ true
int_fits (pos n) fits = grind (arith, ints, nat_tests)
int_fits (negsuc n) fits = grind (arith, ints, nat_tests)

pub longout_valid : (n : ℤ) (config : Config) (state : RecState) → FitsSigned w32 n → config ≡ config_of Longout [] →
    state ≡ opening (config_of Longout []) (Num n) false → IsValid config state
longout_valid n config state fits e f =
    subst (λ (c : Config). IsValid c state) (sym e)
    (subst (λ (s : RecState). IsValid (config_of Longout []) s) (sym f) (record { sort = int_fits n fits; taken = refl; drive = refl }))
