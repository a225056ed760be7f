-- What is built of fields without a fault stands in the ranges of its fields.
use Rattle.std.proofs.Common.{◌≡◌, ℕ, ◌≤◌, ℤ, pos, negsuc, unsigned_abs, nat_le, Bool, true, false, ◌&&◌, List, [], length, take, codes, Option, None, Some, if◌then◌else◌, refl, ap, sym, ◌∙◌, subst, arith}
use Rattle.std.specs.Option.{option_and_then, unwrap_or}
use Rattle.std.proofs.lemmas.Bool.{false≢true}
use Rattle.std.proofs.lemmas.Bool.Decides.{nat_tests}
use Rattle.std.proofs.lemmas.List.{length-take}
use Rattle.rec_kinds.specs.Building.{config_of, build_fault, misread}
use Rattle.rec_kinds.specs.Configs.{Config}
use Rattle.rec_kinds.specs.Configured.{IsInRange, limits_fit}
use Rattle.rec_kinds.specs.Fields.{rule_of}
use Rattle.rec_kinds.specs.Given.{text_of, has_effect, told, text_told, number_told, element_told, choices_kept, all_choices}
use Rattle.rec_kinds.specs.Numbers.{number_of, number_in}
use Rattle.rec_kinds.specs.Ranges.{desc_bytes, element_count}
use Rattle.rec_kinds.specs.Sorts.{sort_of, within, element_sort}
use Rattle.rec_kinds.specs.declared.kind.Kind.{Kind}
use Rattle.rec_kinds.specs.declared.kind.Kind.TheVariants.{Longin, Longout, Int64in, Int64out, Bi, Bo, Mbbi, Mbbo, Stringin, Stringout, Waveform}
use Rattle.rec_kinds.specs.declared.element.Element.{Element}
use Rattle.rec_kinds.specs.declared.element.Element.TheVariants as elements
use Rattle.rec_kinds.specs.declared.field.Rule.TheVariants.{Text, Number}
use Rattle.rec_kinds.specs.declared.fault.Cause.TheVariants as causes
use Rattle.rec_kinds.specs.declared.record_text.FieldText.{FieldText}
use Rattle.rec_kinds.proofs.Built.{unless_none, no_fault, numbered, number_valid, low32, high32, lowest, highest, both}

desc_rule : (kind : Kind) → rule_of kind (codes "DESC") ≡ Some (Text desc_bytes)
desc_rule Longin = refl
desc_rule Longout = refl
desc_rule Int64in = refl
desc_rule Int64out = refl
desc_rule Bi = refl
desc_rule Bo = refl
desc_rule Mbbi = refl
desc_rule Mbbo = refl
desc_rule Stringin = refl
desc_rule Stringout = refl
desc_rule Waveform = refl

le_of : (m n : ℕ) → nat_le m n ≡ true → m ≤ n
le_of m n h = grind (arith, nat_tests)

told_most : (o : Option (List ℕ)) (most : ℕ) → ((t : List ℕ) → o ≡ Some t → nat_le (length t) most ≡ true) → length (unwrap_or o []) ≤ most
told_most None most h = omega arith
told_most (Some t) most h = le_of (length t) most (h t refl)

desc_short : (kind : Kind) (fields : List FieldText) → build_fault kind fields ≡ None → length (text_told kind fields (codes "DESC")) ≤ desc_bytes
desc_short kind fields h =
    subst (λ (o : Option (List ℕ)). length (unwrap_or o []) ≤ desc_bytes) (sym same) (told_most (text_of fields (codes "DESC")) desc_bytes by_text)
  where
    same : told kind fields (codes "DESC") ≡ text_of fields (codes "DESC")
    same = ap (λ r. if has_effect r then text_of fields (codes "DESC") else None) (desc_rule kind)

    by_text : (t : List ℕ) → text_of fields (codes "DESC") ≡ Some t → nat_le (length t) desc_bytes ≡ true
    by_text t e =
        unless_none (nat_le (length t) desc_bytes) causes.Length
        (sym (ap (misread kind fields t) (desc_rule kind)) ∙ no_fault kind fields fields (codes "DESC") t h e)

few : (k : ℕ) (texts : List (List ℕ)) → length texts ≤ 16 → length (take k texts) ≤ 16
few k texts h = simp length-take (omega arith)

few_choices : (kind : Kind) (fields : List FieldText) → length (all_choices kind fields) ≤ 16
few_choices Longin fields = le_of (length (all_choices Longin fields)) 16 refl
few_choices Longout fields = le_of (length (all_choices Longout fields)) 16 refl
few_choices Int64in fields = le_of (length (all_choices Int64in fields)) 16 refl
few_choices Int64out fields = le_of (length (all_choices Int64out fields)) 16 refl
few_choices Bi fields = le_of (length (all_choices Bi fields)) 16 refl
few_choices Bo fields = le_of (length (all_choices Bo fields)) 16 refl
few_choices Mbbi fields = le_of (length (all_choices Mbbi fields)) 16 refl
few_choices Mbbo fields = le_of (length (all_choices Mbbo fields)) 16 refl
few_choices Stringin fields = le_of (length (all_choices Stringin fields)) 16 refl
few_choices Stringout fields = le_of (length (all_choices Stringout fields)) 16 refl
few_choices Waveform fields = le_of (length (all_choices Waveform fields)) 16 refl

-- a number that is read from a range, or else one of it, is one of it
of_range : (low high other : ℤ) (o : Option (List ℕ)) → within low high other ≡ true →
    within low high (unwrap_or (option_and_then (number_in low high) o) other) ≡ true
of_range low high other None fits = fits
of_range low high other (Some t) fits = by_number (number_of t)
  where
    by_test : (b : Bool) (n : ℤ) → within low high n ≡ b → within low high (unwrap_or (if b then Some n else None) other) ≡ true
    by_test true n h = h
    by_test false n h = fits

    by_number : (m : Option ℤ) → within low high (unwrap_or (option_and_then (λ n. if within low high n then Some n else None) m) other) ≡ true
    by_number None = fits
    by_number (Some n) = by_test (within low high n) n refl

sized : (n : ℤ) → within element_count.0 element_count.1 n ≡ true → within element_count.0 element_count.1 (pos (unsigned_abs n)) ≡ true
sized (pos n) h = h
sized (negsuc n) h = absurd (false≢true h)

-- the number that a field tells, in the range of its rule
short_limit : (kind : Kind) (fields : List FieldText) → build_fault kind fields ≡ None → (name : List ℕ) → rule_of kind name ≡ Some (Number low32 high32) →
    within low32 high32 (unwrap_or (option_and_then (number_in lowest highest) (text_of fields name)) (pos 0)) ≡ true
short_limit kind fields h name is = number_valid fields name low32 high32 refl (numbered kind fields name low32 high32 h is)

long_limit : (kind : Kind) (fields : List FieldText) → build_fault kind fields ≡ None → (name : List ℕ) → rule_of kind name ≡ Some (Number lowest highest) →
    within lowest highest (unwrap_or (option_and_then (number_in lowest highest) (text_of fields name)) (pos 0)) ≡ true
long_limit kind fields h name is = number_valid fields name lowest highest refl (numbered kind fields name lowest highest h is)

six : (a b c d e f : Bool) → a ≡ true → b ≡ true → c ≡ true → d ≡ true → e ≡ true → f ≡ true → (a && (b && (c && (d && (e && f))))) ≡ true
six a b c d e f p q r s t u = both a _ p (both b _ q (both c _ r (both d _ s (both e f t u))))

list_limits : (config : Config) (e : Element) → limits_fit config (element_sort e) ≡ true
list_limits config elements.Text = refl
list_limits config elements.I8 = refl
list_limits config elements.U8 = refl
list_limits config elements.I16 = refl
list_limits config elements.U16 = refl
list_limits config elements.I32 = refl
list_limits config elements.U32 = refl
list_limits config elements.I64 = refl
list_limits config elements.U64 = refl

limits_in_range : (kind : Kind) (fields : List FieldText) → build_fault kind fields ≡ None →
    limits_fit (config_of kind fields) (sort_of kind (element_told kind fields)) ≡ true
limits_in_range Longin fields h =
    six _ _ _ _ _ _ (short_limit Longin fields h (codes "HIHI") refl) (short_limit Longin fields h (codes "HIGH") refl)
    (short_limit Longin fields h (codes "LOW") refl) (short_limit Longin fields h (codes "LOLO") refl)
    refl refl
limits_in_range Longout fields h =
    six _ _ _ _ _ _ (short_limit Longout fields h (codes "HIHI") refl) (short_limit Longout fields h (codes "HIGH") refl)
    (short_limit Longout fields h (codes "LOW") refl) (short_limit Longout fields h (codes "LOLO") refl)
    (short_limit Longout fields h (codes "DRVH") refl) (short_limit Longout fields h (codes "DRVL") refl)
limits_in_range Int64in fields h =
    six _ _ _ _ _ _ (long_limit Int64in fields h (codes "HIHI") refl) (long_limit Int64in fields h (codes "HIGH") refl)
    (long_limit Int64in fields h (codes "LOW") refl) (long_limit Int64in fields h (codes "LOLO") refl)
    refl refl
limits_in_range Int64out fields h =
    six _ _ _ _ _ _ (long_limit Int64out fields h (codes "HIHI") refl) (long_limit Int64out fields h (codes "HIGH") refl)
    (long_limit Int64out fields h (codes "LOW") refl) (long_limit Int64out fields h (codes "LOLO") refl)
    (long_limit Int64out fields h (codes "DRVH") refl) (long_limit Int64out fields h (codes "DRVL") refl)
limits_in_range Bi fields h = refl
limits_in_range Bo fields h = refl
limits_in_range Mbbi fields h = refl
limits_in_range Mbbo fields h = refl
limits_in_range Stringin fields h = refl
limits_in_range Stringout fields h = refl
limits_in_range Waveform fields h = list_limits (config_of Waveform fields) (element_told Waveform fields)

built_in_range : (kind : Kind) (fields : List FieldText) → build_fault kind fields ≡ None → IsInRange (config_of kind fields)
built_in_range kind fields h = record {
  desc = desc_short kind fields h;
  limits = limits_in_range kind fields h;
  choices = few (choices_kept kind (all_choices kind fields)) (all_choices kind fields) (few_choices kind fields);
  nelm = sized (number_told kind fields (codes "NELM") element_count.0 element_count.1 (pos 1))
      (of_range element_count.0 element_count.1 (pos 1) (told kind fields (codes "NELM")) refl);
}

pub in_range_at : (kind : Kind) (fields : List FieldText) (config : Config) → build_fault kind fields ≡ None → config ≡ config_of kind fields → IsInRange config
in_range_at kind fields config h e = subst (λ (c : Config). IsInRange c) (sym e) (built_in_range kind fields h)
