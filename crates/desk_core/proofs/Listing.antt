-- Elements of lists, the cells of records, and what actions weigh.
use Rattle.std.proofs.Common.{◌≡◌, ℕ, ◌+◌, ◌*◌, ◌≤◌, ◌<◌, zero, suc, Bool, true, false, if◌then◌else◌, List, [], ◌∷◌, ◌++◌, length, take, drop, get_or, Option, None, Some, refl, sym, ◌∙◌, ap, subst, arith}
use Rattle.std.specs.List.{slice_get, AllByRecursion, list_all, sum_by}
use Rattle.std.specs.Prelude.{◌^◌, nat_le}
use Rattle.std.proofs.lemmas.Bool.{leb-true, and_parts}
use Rattle.std.proofs.lemmas.List.Sums.{sum_by-cons}
use Rattle.std.proofs.lemmas.Option.{none-some, slice_get_within}
use Rattle.rec_kinds.specs.Validity.{own_refusal, refused_unless, is_short, MayBeDone}
use Rattle.rec_kinds.specs.declared.put.PutRefusal.{PutRefusal}
use Rattle.rec_kinds.specs.declared.put.PutRefusal.TheVariants.{TextTooLong, TooManyElements, Disabled}
use Rattle.rec_kinds.specs.Configs.{Config}
use Rattle.rec_kinds.specs.declared.datum.Datum.{Datum}
use Rattle.rec_kinds.specs.declared.datum.Datum.TheVariants.{Num, Index, Text, Nums, Texts}
use Rattle.rec_kinds.specs.declared.datum.Action.{Action}
use Rattle.rec_kinds.specs.declared.datum.Action.TheVariants.{Put, Process}
use Rattle.rec_kinds.specs.declared.state.RecState.{RecState}
use Rattle.journal_core.specs.Weights.{action_weight, payload, text_payload}
use Rattle.journal_core.specs.Legality.{AreValid}

-- the payload of short texts
texts_small : (ts : List (List ℕ)) → list_all is_short ts ≡ true → sum_by text_payload ts ≤ 55 * length ts
texts_small [] short = omega arith
texts_small (t ∷ ts) short =
    let both = and_parts (is_short t) (list_all is_short ts) short in
    omega (arith, sum_by-cons text_payload t ts, leb-true (length t) 39 both.0, texts_small ts both.1)

taken_if : (good : Bool) (r : PutRefusal) (next : Option PutRefusal) → refused_unless good r next ≡ None → (good ≡ true) × (next ≡ None)
taken_if true r next taken = (refl, taken)
taken_if false r next taken = absurd (none-some r (sym taken))

enabled_own : (disabled : Bool) (own : Option PutRefusal) → (if disabled then Some Disabled else own) ≡ None → own ≡ None
enabled_own true own taken = absurd (none-some Disabled (sym taken))
enabled_own false own taken = taken

-- the payload of what a record may be put
put_small : (config : Config) (datum : Datum) → own_refusal config datum ≡ None → payload (Put datum) ≤ 64 + 55 * config.nelm
put_small config (Num n) taken = omega arith
put_small config (Index n) taken = omega arith
put_small config (Text t) taken = omega (arith, leb-true (length t) 39 (taken_if _ _ _ taken).0)
put_small config (Nums ns) taken = omega (arith, leb-true (length ns) config.nelm (taken_if _ _ _ taken).0)
put_small config (Texts ts) taken =
    let rest = taken_if (list_all is_short ts) TextTooLong (refused_unless (nat_le (length ts) config.nelm) TooManyElements None) taken in
    omega (arith, texts_small ts rest.0, leb-true (length ts) config.nelm (taken_if _ _ _ rest.1).0)

payload_small : (config : Config) (action : Action) → MayBeDone config action → payload action ≤ 64 + 55 * config.nelm
payload_small config (Put datum) may = put_small config datum (enabled_own config.disabled (own_refusal config datum) may.taken)
payload_small config Process may = omega arith

-- each record has a cell
pub valid_count : (configs : List Config) (cells : List RecState) → AreValid configs cells → length configs ≡ length cells
valid_count [] [] v = refl
valid_count [] (s ∷ cells) v = absurd v
valid_count (c ∷ configs) [] v = absurd v
valid_count (c ∷ configs) (s ∷ cells) v = ap suc (valid_count configs cells v.1)

pub in_cells : (configs : List Config) (cells : List RecState) (rec : ℕ) (config : Config) → AreValid configs cells → slice_get configs rec ≡ Some config → rec < length cells
in_cells configs cells rec config v found = omega (arith, slice_get_within configs rec config found, valid_count configs cells v)

pub got : {X : Type 0} (xs : List X) (n : ℕ) (x : X) → n < length xs → x ≡ get_or xs n x → slice_get xs n ≡ Some x
got [] n x less is = absurd (omega (arith, less))
got (y ∷ xs) zero x less is = ap Some (sym is)
got (y ∷ xs) (suc n) x less is = got xs n x (omega (arith, less)) is

-- what is left from an element on
pub rest_at : {X : Type 0} (xs : List X) (n : ℕ) (x : X) → slice_get xs n ≡ Some x → drop n xs ≡ x ∷ drop (suc n) xs
rest_at [] n x is = absurd (none-some x is)
rest_at {X} (y ∷ xs) zero x is = let same : y ≡ x = cc in ap (λ (z : X). z ∷ xs) same
rest_at (y ∷ xs) (suc n) x is = rest_at xs n x is

pub action_light : (rec : ℕ) (config : Config) (action : Action) → config.nelm < 2 ^ 32 → MayBeDone config action → action_weight (rec, action) ≤ 2 ^ 39
action_light rec config action few may = omega (arith, few, payload_small config action may)

-- one element more
next : {X : Type 0} (xs : List X) (n : ℕ) (x : X) → slice_get xs n ≡ Some x → take (suc n) xs ≡ take n xs ++ x ∷ []
next [] n x is = absurd (none-some x is)
next {X} (y ∷ xs) zero x is = let same : y ≡ x = cc in ap (λ (z : X). z ∷ []) same
next {X} (y ∷ xs) (suc n) x is = ap (λ (l : List X). y ∷ l) (next xs n x is)

one_more : (n : ℕ) → n + 1 ≡ suc n
one_more n = omega arith

pub next_taken : {X : Type 0} (xs : List X) (n : ℕ) (x : X) → slice_get xs n ≡ Some x → take (n + 1) xs ≡ take n xs ++ x ∷ []
next_taken xs n x is = ap (λ (k : ℕ). take k xs) (one_more n) ∙ next xs n x is

pub all_at : {X : Type 0} (P : X → Type 0) (xs : List X) (n : ℕ) (x : X) → AllByRecursion P xs → slice_get xs n ≡ Some x → P x
all_at P [] n x all is = absurd (none-some x is)
all_at P (y ∷ xs) zero x all is = let same : y ≡ x = cc in subst P same all.0
all_at P (y ∷ xs) (suc n) x all is = all_at P xs n x all.1 is
