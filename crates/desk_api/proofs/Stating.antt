-- The records that a text states, one after another.
use Rattle.std.specs.Prelude.{◌≡◌, ℕ, zero, suc, Bool, List, [], ◌∷◌, ◌++◌, length, map, take, Option, Some, None, IsTrue, slice_get, bytes_eq, refl}
use Rattle.std.specs.Option.{option_or}
use Rattle.std.proofs.Common.{true, false, cond, arith, get_or, drop, ◌<◌, ◌+◌, sym, ◌∙◌, ap, subst}
use Rattle.std.proofs.lemmas.Bool.{false≢true}
use Rattle.std.proofs.lemmas.List.{map-append}
use Rattle.std.proofs.lemmas.Option.{none-some}
use Rattle.db_load.specs.Forms.{is_among}
use Rattle.db_load.specs.Grammar.{RecordsAfter}
use Rattle.db_text.specs.declared.token.Token.{Token}
use Rattle.rec_kinds.specs.Building.{config_of, opening_of}
use Rattle.rec_kinds.specs.declared.fault.BuildFault.{BuildFault}
use Rattle.rec_kinds.specs.declared.record_text.RecText.{RecText}
use Rattle.desk_api.specs.Loading.{fault_in, first_fault}
use Rattle.desk_api.specs.Records.{AreNew, IsFaultIn, IsFirstFault, records_of, with_record}
use Rattle.desk_api.specs.Sites.{is_record_name}
use Rattle.desk_api.specs.declared.fault.SiteFault.{SiteFault}
use Rattle.desk_api.specs.declared.fault.SiteFault.TheVariants.{Load, Build, Group, NoMemory}
use Rattle.desk_api.specs.declared.history.SiteData.{SiteData}

-- the records of a text have names of their own
pub records_new : (taken : List (List ℕ)) (tokens : List Token) (rs : List RecText) → RecordsAfter taken tokens rs → AreNew taken rs
records_new taken tokens [] is = tt
records_new taken tokens (r ∷ rs) is =
    let form = is.1 in
    let good = is.4.head_is in
    let name : r.name ≡ form.head.name.text = ap (λ (x : RecText). x.name) is.5 in (
      subst (λ (n : List ℕ). IsTrue (is_record_name n)) (sym name) good.name_may,
      subst (λ (n : List ℕ). is_among n taken ≡ false) (sym name) good.name_new,
      subst (λ (n : List ℕ). AreNew (n ∷ taken) rs) (sym name) (records_new (form.head.name.text ∷ taken) is.2 rs is.6),
    )

-- the name of each is none of those before it
apart : (b : Bool) (rest : Bool) → cond b true rest ≡ false → (b ≡ false) × (rest ≡ false)
apart true rest is = absurd (false≢true (sym is))
apart false rest is = (refl, is)

fresh_at : (taken : List (List ℕ)) (rs : List RecText) → AreNew taken rs → (i : ℕ) (r : RecText) → slice_get rs i ≡ Some r
    → IsTrue (is_record_name r.name) × (is_among r.name taken ≡ false) × (is_among r.name (map (λ x. x.name) (take i rs)) ≡ false)
fresh_at taken [] are i r is = absurd (none-some r is)
fresh_at taken (x ∷ rs) are zero r is =
    let same : x ≡ r = cc in
    subst (λ (y : RecText). IsTrue (is_record_name y.name) × (is_among y.name taken ≡ false) × (is_among y.name [] ≡ false)) same (are.0, are.1, refl)
fresh_at taken (x ∷ rs) are (suc i) r is =
    let later = fresh_at (x.name ∷ taken) rs are.2 i r is in
    let split = apart (bytes_eq x.name r.name) (is_among r.name taken) later.1 in
    (later.0, split.1, ap (λ (b : Bool). cond b true (is_among r.name (map (λ y. y.name) (take i rs)))) split.0 ∙ later.2)

pub new_at : (rs : List RecText) → AreNew [] rs → (i : ℕ) (r : RecText) → slice_get rs i ≡ Some r → IsTrue (is_record_name r.name) × (is_among r.name (map (λ x. x.name) (take i rs)) ≡ false)
new_at rs are i r is = let at = fresh_at [] rs are i r is in (at.0, at.2)

-- one more record
pub one_more : (rs : List RecText) (r : RecText) → records_of (rs ++ r ∷ []) ≡ with_record (records_of rs) r
one_more rs r = λ i. record {
  names = map-append (λ (x : RecText). x.name) rs (r ∷ []) i;
  configs = map-append (λ (x : RecText). config_of x.kind x.fields) rs (r ∷ []) i;
  opening = map-append (λ (x : RecText). opening_of x.kind x.fields) rs (r ∷ []) i;
  groups = [];
}

or_none : {A : Type 0} (x y : Option A) → x ≡ None → y ≡ None → option_or x y ≡ None
or_none {A} x y a b = ap (λ (z : Option A). option_or z y) a ∙ b

none_parts : {A : Type 0} (x y : Option A) → option_or x y ≡ None → (x ≡ None) × (y ≡ None)
none_parts (Some a) y is = absurd (none-some a (sym is))
none_parts None y is = (refl, is)

pub faultless_more : (rs more : List RecText) → first_fault rs ≡ None → first_fault (rs ++ more) ≡ first_fault more
faultless_more [] more none_ = refl
faultless_more (r ∷ rs) more none_ =
    let parts = none_parts (fault_in r) (first_fault rs) none_ in
    ap (λ (x : Option (List ℕ × BuildFault)). option_or x (first_fault (rs ++ more))) parts.0 ∙ faultless_more rs more parts.1

-- what stands at a place, and what is left from there on
pub there : {X : Type 0} (xs : List X) (n : ℕ) (x : X) → n < length xs → x ≡ get_or xs n x → slice_get xs n ≡ Some x
there [] n x less is = absurd (omega (arith, less))
there (y ∷ xs) zero x less is = ap Some (sym is)
there (y ∷ xs) (suc n) x less is = there xs n x (omega (arith, less)) is

pub split_at : {X : Type 0} (xs : List X) (n : ℕ) (x : X) → slice_get xs n ≡ Some x → xs ≡ take n xs ++ x ∷ drop (suc n) xs
split_at [] n x is = absurd (none-some x is)
split_at {X} (y ∷ xs) zero x is = let same : y ≡ x = cc in ap (λ (z : X). z ∷ xs) same
split_at {X} (y ∷ xs) (suc n) x is = ap (λ (l : List X). y ∷ l) (split_at xs n x is)

taken_on : {X : Type 0} (xs : List X) (n : ℕ) (x : X) → slice_get xs n ≡ Some x → take (suc n) xs ≡ take n xs ++ x ∷ []
taken_on [] n x is = absurd (none-some x is)
taken_on {X} (y ∷ xs) zero x is = let same : y ≡ x = cc in ap (λ (z : X). z ∷ []) same
taken_on {X} (y ∷ xs) (suc n) x is = ap (λ (l : List X). y ∷ l) (taken_on xs n x is)

pub next_taken : {X : Type 0} (xs : List X) (n : ℕ) (x : X) → slice_get xs n ≡ Some x → take (n + 1) xs ≡ take n xs ++ x ∷ []
next_taken xs n x is = let next : n + 1 ≡ suc n = omega arith in ap (λ (m : ℕ). take m xs) next ∙ taken_on xs n x is

-- the first fault is that of a record which can't be built, where those before it can
pub fault_at : (rs : List RecText) (i : ℕ) (r : RecText) (found : List ℕ × BuildFault) → slice_get rs i ≡ Some r → first_fault (take i rs) ≡ None → fault_in r ≡ Some found → first_fault rs ≡ Some found
fault_at rs i r found is none_ fault =
    ap first_fault (split_at rs i r is)
    ∙ faultless_more (take i rs) (r ∷ drop (suc i) rs) none_
    ∙ ap (λ (x : Option (List ℕ × BuildFault)). option_or x (first_fault (drop (suc i) rs))) fault

pub is_first : (rs : List RecText) (i : ℕ) (r : RecText) (fault : SiteFault) → slice_get rs i ≡ Some r → first_fault (take i rs) ≡ None → IsFaultIn r fault → IsFirstFault rs fault
is_first rs i r (Load fault) is none_ in_it = in_it
is_first rs i r (Group fault) is none_ in_it = in_it
is_first rs i r (Build name fault) is none_ in_it = fault_at rs i r (name, fault) is none_ in_it
is_first rs i r NoMemory is none_ in_it = tt

pub none_more : (rs : List RecText) (i : ℕ) (r : RecText) → slice_get rs i ≡ Some r → first_fault (take i rs) ≡ None → fault_in r ≡ None → first_fault (take (i + 1) rs) ≡ None
none_more rs i r is none_ fault =
    ap first_fault (next_taken rs i r is)
    ∙ faultless_more (take i rs) (r ∷ []) none_
    ∙ ap (λ (x : Option (List ℕ × BuildFault)). option_or x None) fault

pub site_more : (rs : List RecText) (i : ℕ) (r : RecText) (before after : SiteData) → slice_get rs i ≡ Some r → before ≡ records_of (take i rs) → after ≡ with_record before r → after ≡ records_of (take (i + 1) rs)
site_more rs i r before after is was now =
    now ∙ ap (λ (s : SiteData). with_record s r) was ∙ sym (one_more (take i rs) r) ∙ ap records_of (sym (next_taken rs i r is))
