-- What moves is allowed.
use Rattle.std.proofs.Common.{◌≡◌, ℤ, pos, negsuc, Bool, true, false, cond, Option, None, Some, is_some, refl, sym, ap, ◌∙◌}
use Rattle.std.specs.Option.{option_and_then, option_map}
use Rattle.rec_kinds.specs.Configs.{Config}
use Rattle.rec_kinds.specs.Sorts.{Sort, number, index, text, numbers, texts, sort_of, is_of, within}
use Rattle.rec_kinds.specs.Told.{index_told}
use Rattle.rec_kinds.specs.Validity.{IsAllowed, refusal}
use Rattle.rec_kinds.specs.declared.put.PutRefusal.{PutRefusal}
use Rattle.rec_kinds.specs.declared.datum.Datum.{Datum}
use Rattle.rec_kinds.specs.declared.datum.Datum.TheVariants.{Num, Index, Text, Nums, Texts}
use Rattle.rec_kinds.specs.Ranges.{uint16}
use Rattle.db_links.specs.Converting.{number_in, ranged, text_in, as_sort, unless_refused, converted}
use Rattle.db_links.proofs.Sound.{some_same, none_some}

num_sorted : (low high n : ℤ) (b : Bool) (x : Datum) → within low high n ≡ b → option_map Num (cond b (Some n) None) ≡ Some x → is_of (number low high) x ≡ true
num_sorted low high n true x is e = ap (is_of (number low high)) (sym (some_same e)) ∙ is
num_sorted low high n false x is e = absurd (none_some e)

nums_sorted : (low high : ℤ) (o : Option ℤ) (x : Datum) → option_map Num (option_and_then (ranged (low, high)) o) ≡ Some x → is_of (number low high) x ≡ true
nums_sorted low high None x e = absurd (none_some e)
nums_sorted low high (Some n) x e = num_sorted low high n (within low high n) x refl e

told_sorted : (o : Option ℤ) (x : Datum) → option_and_then index_told o ≡ Some x → is_of index x ≡ true
told_sorted None x e = absurd (none_some e)
told_sorted (Some (pos n)) x e = ap (is_of index) (sym (some_same e))
told_sorted (Some (negsuc n)) x e = absurd (none_some e)

text_sorted : (d x : Datum) → text_in d ≡ Some x → is_of text x ≡ true
text_sorted (Num n) x e = ap (is_of text) (sym (some_same e))
text_sorted (Index i) x e = ap (is_of text) (sym (some_same e))
text_sorted (Text t) x e = ap (is_of text) (sym (some_same e))
text_sorted (Nums ns) x e = absurd (none_some e)
text_sorted (Texts ts) x e = absurd (none_some e)

sorted : (sort : Sort) (d x : Datum) → as_sort sort d ≡ Some x → is_of sort x ≡ true
sorted (number low high) d x e = nums_sorted low high (number_in d) x e
sorted index d x e = told_sorted (option_and_then (ranged uint16) (number_in d)) x e
sorted text d x e = text_sorted d x e
sorted (numbers low high) d x e = absurd (none_some e)
sorted texts d x e = absurd (none_some e)

kept : (r : Option PutRefusal) (y x : Datum) → cond (is_some r) None (Some y) ≡ Some x → (y ≡ x) × (r ≡ None)
kept None y x e = (some_same e, refl)
kept (Some p) y x e = absurd (none_some e)

taken : (config : Config) (o : Option Datum) (x : Datum) → option_and_then (unless_refused config) o ≡ Some x → (o ≡ Some x) × (refusal config x ≡ None)
taken config None x e = absurd (none_some e)
taken config (Some y) x e = let k = kept (refusal config y) y x e in (ap Some k.0, ap (refusal config) (sym k.0) ∙ k.1)

pub allowed_of : (config : Config) (d x : Datum) → converted config d ≡ Some x → IsAllowed config x
allowed_of config d x e =
    let t = taken config (as_sort (sort_of config.kind config.ftvl) d) x e in
    record { sort = sorted (sort_of config.kind config.ftvl) d x t.0; taken = t.1 }
