-- The records of a text, one after another.
use Rattle.std.proofs.Common.{◌≡◌, ℕ, zero, suc, ◌≤◌, ◌<◌, Bool, true, false, cond, List, [], ◌∷◌, ◌++◌, length, Result, Ok, Err, refl, sym, ap, ◌∙◌, arith, append_assoc}
use Rattle.std.proofs.lemmas.List.{append-nil}
use Rattle.std.specs.Str.{bytes_eq}
use Rattle.rec_kinds.specs.declared.record_text.RecText.{RecText}
use Rattle.db_load.specs.declared.fault.FormStop.{FormStop}
use Rattle.db_load.specs.Forms.{Stop, Tokens, Fails, ◌>>=◌, is_among, record_with, then_records, records_from}
use Rattle.db_load.proofs.Within.{fails_on}

abbrev pub joined : List RecText → Result (List RecText) Stop → Result (List RecText) Stop
joined first (Ok rs) = Ok (first ++ rs)
joined first (Err e) = Err e

abbrev pub ListGoes : (List ℕ → Bool) → List RecText → Tokens → Result (List RecText) Stop → Type 0
ListGoes taken records tokens whole =
    (n : ℕ) × (names : List (List ℕ)) × (length tokens ≤ n) × ((name : List ℕ) → taken name ≡ is_among name names) × (joined records (records_from n names tokens) ≡ whole)

same_tests : (f g : List ℕ → Bool) → ((name : List ℕ) → f name ≡ g name) → f ≡ g
same_tests f g e = λ i name. e name i

no_tokens : (n : ℕ) (names : List (List ℕ)) → records_from n names [] ≡ Ok []
unfolding records_from
no_tokens zero names = refl
no_tokens (suc n) names = refl

step : (n : ℕ) (names : List (List ℕ)) (tokens : Tokens) → 0 < length tokens
    → records_from (suc n) names tokens ≡ (record_with (λ name. is_among name names) tokens >>= λ r. then_records r.0 (records_from n (r.0.name ∷ names) r.1))
unfolding records_from
step n names [] some = absurd (omega arith)
step n names (t ∷ rest) some = refl

pub list_begins : (taken : List ℕ → Bool) (tokens : Tokens) (whole : Result (List RecText) Stop) → ((name : List ℕ) → taken name ≡ false) → records_from (length tokens) [] tokens ≡ whole → ListGoes taken [] tokens whole
list_begins taken tokens whole none same = (length tokens, [], omega arith, none, as_it_is (records_from (length tokens) [] tokens) ∙ same)
  where
    as_it_is : (r : Result (List RecText) Stop) → joined [] r ≡ r
    as_it_is (Ok rs) = refl
    as_it_is (Err e) = refl

module _ (taken : List ℕ → Bool) (records : List RecText) (tokens : Tokens) (whole : Result (List RecText) Stop) where
  pub list_ends : tokens ≡ [] → ListGoes taken records tokens whole → whole ≡ Ok records
  list_ends none (n, names, enough, known, same) =
      sym same ∙ ap (λ (ts : Tokens). joined records (records_from n names ts)) none ∙ ap (joined records) (no_tokens n names) ∙ ap (λ (rs : List RecText). Ok rs) (append-nil records)

  at_record : (n : ℕ) (names : List (List ℕ)) → 0 < length tokens → ((name : List ℕ) → taken name ≡ is_among name names)
      → records_from (suc n) names tokens ≡ (record_with taken tokens >>= λ r. then_records r.0 (records_from n (r.0.name ∷ names) r.1))
  at_record n names some known =
      step n names tokens some ∙ ap (λ (f : List ℕ → Bool). record_with f tokens >>= λ r. then_records r.0 (records_from n (r.0.name ∷ names) r.1)) (sym (same_tests taken (λ name. is_among name names) known))

  pub list_fails : (stop : FormStop) → 0 < length tokens → Fails stop (record_with taken tokens) → ListGoes taken records tokens whole → Fails stop whole
  list_fails stop some h (zero, names, enough, known, same) = absurd (omega arith)
  list_fails stop some h (suc n, names, enough, known, same) =
      fails_on (RecText × Tokens) (List RecText) (λ r. joined records (r >>= λ r. then_records r.0 (records_from n (r.0.name ∷ names) r.1))) stop (record_with taken tokens) whole (λ e. refl)
      (ap (joined records) (sym (at_record n names some known)) ∙ same) h

  pub list_next : (later : List ℕ → Bool) (r : RecText) (after : Tokens) → record_with taken tokens ≡ Ok (r, after) → length after < length tokens
      → ((name : List ℕ) → later name ≡ cond (bytes_eq r.name name) true (taken name)) → ListGoes taken records tokens whole → ListGoes later (records ++ r ∷ []) after whole
  list_next later r after h shorter added (zero, names, enough, known, same) = absurd (omega arith)
  list_next later r after h shorter added (suc n, names, enough, known, same) = (
    n,
    r.name ∷ names,
    omega arith,
    λ name. added name ∙ ap (cond (bytes_eq r.name name) true) (known name),
    more (records_from n (r.name ∷ names) after)
        ∙ ap (joined records) (sym (at_record n names (omega arith) known ∙ ap (λ x. x >>= λ r. then_records r.0 (records_from n (r.0.name ∷ names) r.1)) h)) ∙ same,
  )
    where
      more : (x : Result (List RecText) Stop) → joined (records ++ r ∷ []) x ≡ joined records (then_records r x)
      more (Ok rs) = ap (λ (ys : List RecText). Ok ys) (append_assoc records (r ∷ []) rs)
      more (Err e) = refl
