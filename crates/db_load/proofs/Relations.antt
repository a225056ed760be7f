-- What loading gives, as the records of the text or its first fault.
use Rattle.std.proofs.Common.{◌≡◌, ◌⊎◌, ◌∙◌, ℕ, ◌≤◌, ◌<◌, eqb, false, List, [], length, Option, Some, None, Result, Ok, Err, refl, sym, ap, subst, Vec, arith, inl, inr}
use Rattle.std.proofs.lemmas.Bool.{cases_lt, lt-ltb, le-ltb, eq-eqb}
use Rattle.std.proofs.lemmas.Bool.Decides.{eqb_tells}
use Rattle.rec_kinds.specs.declared.record_text.RecText.{RecText}
use Rattle.db_text.specs.Macros.{Macros}
use Rattle.db_text.specs.Expanding.{Placed, expanded}
use Rattle.db_text.specs.Cutting.{cut}
use Rattle.db_text.specs.Faults.{macro_fault}
use Rattle.db_text.specs.Grammar.{TokensTo}
use Rattle.db_text.specs.declared.fault.TextFault.{TextFault}
use Rattle.db_text.specs.declared.token.Token.{Token}
use Rattle.pvd_type.proofs.Sets.{differs}
use Rattle.db_text.specs.Expansion.{ExpandsTo}
use Rattle.db_text.proofs.Sequences.{tokens_found, tokens_only}
use Rattle.db_text.proofs.Expansions.{expansion_found, expansion_only}
use Rattle.db_load.specs.declared.fault.LoadFault.{LoadFault}
use Rattle.db_load.specs.declared.fault.LoadFault.TheVariants as faults
use Rattle.db_load.specs.Forms.{Stop, short, faulty, records_from}
use Rattle.db_load.specs.Grammar.{Records}
use Rattle.db_load.specs.Loading.{counted, formed, last_line, loaded_cut, loaded_plain, loaded, IsLoaded, RecordsOf, FirstFaultOf, Loads, OneLoading}
use Rattle.db_load.specs.Places.{FormsStop, FaultOf}
use Rattle.db_load.proofs.RecordsRead.{records_found, records_only}
use Rattle.db_load.proofs.Stopping.{forms_stop_found, forms_stop_only}

err_ok : {A E : Type 0} (e : E) (a : A) (r : Result A E) → r ≡ Err e → r ≡ Ok a → ⊥
err_ok e a r f g = absurd cc

abbrev held : {A E : Type 0} → A → Result A E → A
held d (Ok x) = x
held d (Err e) = d

abbrev why : {A E : Type 0} → E → Result A E → E
why d (Ok x) = d
why d (Err e) = e

ok_is : {A E : Type 0} (a b : A) (r : Result A E) → r ≡ Ok a → r ≡ Ok b → a ≡ b
ok_is a b r f g = sym (ap (held a) f) ∙ ap (held a) g

err_is : {A E : Type 0} (a b : E) (r : Result A E) → r ≡ Err a → r ≡ Err b → a ≡ b
err_is a b r f g = sym (ap (why a) f) ∙ ap (why a) g

-- a count that is allowed
counted_gives : (rs out : List RecText) → counted rs ≡ Ok out → (rs ≡ out) × (1 ≤ length out) × (length out ≤ 4000)
counted_gives rs out h =
    elim (eqb_tells (length rs) 0) [
      | inl z ↦ absurd (err_ok (faults.Count 0) out (counted rs) (rw z.0 refl) h)
      | inr z ↦ elim (cases_lt 4000 (length rs)) [
        | inl lt ↦ absurd (err_ok (faults.Count (length rs)) out (counted rs) (rw (z.0, lt-ltb 4000 (length rs) lt) refl) h)
        | inr le ↦ let e = ok_is rs out (counted rs) (rw (z.0, le-ltb 4000 (length rs) le) refl) h in
            subst (λ (xs : List RecText). (rs ≡ xs) × (1 ≤ length xs) × (length xs ≤ 4000)) e (refl, some z.1, le)
      ]
    ]
  where
    some : (length rs ≡ 0 → ⊥) → 1 ≤ length rs
    some z = elim (cases_lt 0 (length rs)) [ inl lt ↦ lt | inr le ↦ absurd (z (omega (arith, le))) ]

counts : (rs : List RecText) → 1 ≤ length rs → length rs ≤ 4000 → counted rs ≡ Ok rs
counts rs some few =
    elim (eqb_tells (length rs) 0) [
      | inl z ↦ absurd (let e = z.1 in omega (arith, e, some))
      | inr z ↦ rw (z.0, le-ltb 4000 (length rs) few) refl
    ]

formed_gives : (end : ℕ) (read : Result (List RecText) Stop) (stop : Option TextFault) (out : List RecText) → formed end read stop ≡ Ok out → (stop ≡ None) × (read ≡ Ok out) × (1 ≤ length out) × (length out ≤ 4000)
formed_gives end (Err (faulty fault)) stop out h = absurd cc
formed_gives end (Ok rs) (Some fault) out h = absurd cc
formed_gives end (Err short) (Some fault) out h = absurd cc
formed_gives end (Err short) None out h = absurd cc
formed_gives end (Ok rs) None out h = let p = counted_gives rs out h in (refl, ap (λ (xs : List RecText). Ok xs) p.0, p.1, p.2)

expands : (ms : Macros) (text : List ℕ) (e : Placed) → expanded ms text ≡ e → ExpandsTo ms text e
expands ms text e h = subst (ExpandsTo ms text) h (expansion_found ms text)

loaded_is : (ms : Macros) (text : List ℕ) → loaded ms text ≡ loaded_plain text (expanded ms text)
unfolding loaded
loaded_is ms text = refl

records_of : (ms : Macros) (text plain : List ℕ) (records : List RecText) → expanded ms text ≡ Ok plain → loaded_cut (last_line text) (cut plain) ≡ Ok records → RecordsOf ms text records
records_of ms text plain records made h =
    let p = formed_gives (last_line text) (records_from (length (cut plain).0) [] (cut plain).0) (cut plain).1 records h in (
      plain,
      (cut plain).0,
      expands ms text (Ok plain) made,
      subst (λ (s : Option TextFault). TokensTo plain (cut plain).0 s) p.0 (tokens_found plain),
      records_found (length (cut plain).0) [] (cut plain).0 records (omega arith) p.1,
      p.2,
      p.3,
    )

ok_found : (ms : Macros) (text : List ℕ) (records : List RecText) (e : Placed) → expanded ms text ≡ e → loaded_plain text e ≡ Ok records → RecordsOf ms text records
ok_found ms text records (Ok plain) made h = records_of ms text plain records made h
ok_found ms text records (Err e) made h = absurd cc

-- a count that isn't allowed
abbrev Miscounted : List RecText → LoadFault → Type 0
Miscounted rs fault = ((length rs ≡ 0) ⊎ (4000 < length rs)) × (fault ≡ faults.Count (length rs))

miscounts : (rs : List RecText) (fault : LoadFault) → counted rs ≡ Err fault → Miscounted rs fault
miscounts rs fault h =
    elim (eqb_tells (length rs) 0) [
      | inl z ↦ (inl z.1, err_is {A = List RecText} fault (faults.Count (length rs)) (counted rs) h (rw z.0 (ap (λ n. Err (faults.Count n)) (sym z.1))))
      | inr z ↦ elim (cases_lt 4000 (length rs)) [
        | inl lt ↦ (inr lt, err_is {A = List RecText} fault (faults.Count (length rs)) (counted rs) h (rw (z.0, lt-ltb 4000 (length rs) lt) refl))
        | inr le ↦ absurd (err_ok fault rs (counted rs) h (rw (z.0, le-ltb 4000 (length rs) le) refl))
      ]
    ]

miscounted : (rs : List RecText) (fault : LoadFault) → Miscounted rs fault → counted rs ≡ Err fault
miscounted rs fault (inl z, is) = rw (eq-eqb (length rs) 0 z) (ap (λ n. Err (faults.Count n)) (sym z) ∙ ap (λ (f : LoadFault). Err f) (sym is))
miscounted rs fault (inr lt, is) =
    let some : eqb (length rs) 0 ≡ false = differs (length rs) 0 (λ (z : length rs ≡ 0). omega (arith, lt, z)) in
    rw (some, lt-ltb 4000 (length rs) lt) (ap (λ (f : LoadFault). Err f) (sym is))

-- what forms give, up to the fault that ended the tokens
formed_err : (end : ℕ) (tokens : List Token) (read : Result (List RecText) Stop) (stop : Option TextFault) (fault : LoadFault) → records_from (length tokens) [] tokens ≡ read → formed end read stop ≡ Err fault → FaultOf end tokens stop fault
formed_err end tokens (Err (faulty f)) (Some t) fault read h =
    let same : f ≡ fault = err_is {A = List RecText} f fault (Err f) refl h in inl (forms_stop_found (length tokens) [] tokens (faulty fault) (omega arith) (read ∙ ap (λ (x : LoadFault). Err (faulty x)) same))
formed_err end tokens (Err (faulty f)) None fault read h =
    let same : f ≡ fault = err_is {A = List RecText} f fault (Err f) refl h in inl (forms_stop_found (length tokens) [] tokens (faulty fault) (omega arith) (read ∙ ap (λ (x : LoadFault). Err (faulty x)) same))
formed_err end tokens (Err short) (Some t) fault read h =
    inr (inl (forms_stop_found (length tokens) [] tokens short (omega arith) read), err_is {A = List RecText} fault (faults.Text t) (Err (faults.Text t)) h refl)
formed_err end tokens (Err short) None fault read h =
    inr (inl (forms_stop_found (length tokens) [] tokens short (omega arith) read, err_is {A = List RecText} fault (faults.BadForm end) (Err (faults.BadForm end)) h refl))
formed_err end tokens (Ok rs) (Some t) fault read h =
    inr (inr (rs, records_found (length tokens) [] tokens rs (omega arith) read), err_is {A = List RecText} fault (faults.Text t) (Err (faults.Text t)) h refl)
formed_err end tokens (Ok rs) None fault read h =
    let m = miscounts rs fault h in inr (inr (rs, records_found (length tokens) [] tokens rs (omega arith) read, m.0, m.1))

forms_err : (tokens : List Token) (stop : Stop) → FormsStop tokens stop → records_from (length tokens) [] tokens ≡ Err stop
forms_err tokens stop (fs, stops) = forms_stop_only fs [] tokens stop (length tokens) (omega arith) stops

forms_ok : (tokens : List Token) (rs : List RecText) → Records tokens rs → records_from (length tokens) [] tokens ≡ Ok rs
forms_ok tokens rs are = records_only rs [] tokens (length tokens) (omega arith) are

err_formed : (end : ℕ) (tokens : List Token) (stop : Option TextFault) (fault : LoadFault) → FaultOf end tokens stop fault → formed end (records_from (length tokens) [] tokens) stop ≡ Err fault
err_formed end tokens (Some t) fault (inl stops) = ap (λ r. formed end r (Some t)) (forms_err tokens (faulty fault) stops)
err_formed end tokens (Some t) fault (inr (inl stops, is)) = ap (λ r. formed end r (Some t)) (forms_err tokens short stops) ∙ ap (λ (f : LoadFault). Err f) (sym is)
err_formed end tokens (Some t) fault (inr (inr (rs, are), is)) = ap (λ r. formed end r (Some t)) (forms_ok tokens rs are) ∙ ap (λ (f : LoadFault). Err f) (sym is)
err_formed end tokens None fault (inl stops) = ap (λ r. formed end r None) (forms_err tokens (faulty fault) stops)
err_formed end tokens None fault (inr (inl (stops, is))) = ap (λ r. formed end r None) (forms_err tokens short stops) ∙ ap (λ (f : LoadFault). Err f) (sym is)
err_formed end tokens None fault (inr (inr (rs, are, many, is))) = ap (λ r. formed end r None) (forms_ok tokens rs are) ∙ miscounted rs fault (many, is)

err_found : (ms : Macros) (text : List ℕ) (fault : LoadFault) (e : Placed) → expanded ms text ≡ e → loaded_plain text e ≡ Err fault → FirstFaultOf ms text fault
err_found ms text fault (Err e) made h =
    inl (e.0, e.1, expands ms text (Err e) made, sym (err_is {A = List RecText} (faults.Text (macro_fault e.0 e.1)) fault (loaded_plain text (Err e)) refl h))
err_found ms text fault (Ok plain) made h =
    inr (plain, (cut plain).0, (cut plain).1, expands ms text (Ok plain) made, tokens_found plain, formed_err (last_line text) (cut plain).0 (records_from (length (cut plain).0) [] (cut plain).0) (cut plain).1 fault refl h)

-- what the scan gives is right
pub loads : (Z : Type 0) (ms : Macros) (text : List ℕ) (result : Result (Vec RecText Z) LoadFault) → IsLoaded result (loaded ms text) → Loads ms text result
loads Z ms text (Ok records) h = ok_found ms text records.items (expanded ms text) refl (sym (loaded_is ms text) ∙ h)
loads Z ms text (Err faults.NoMemory) h = tt
loads Z ms text (Err (faults.Text t)) h = err_found ms text (faults.Text t) (expanded ms text) refl (sym (loaded_is ms text) ∙ h)
loads Z ms text (Err (faults.SameRecord name line)) h = err_found ms text (faults.SameRecord name line) (expanded ms text) refl (sym (loaded_is ms text) ∙ h)
loads Z ms text (Err (faults.UnknownKind name line)) h = err_found ms text (faults.UnknownKind name line) (expanded ms text) refl (sym (loaded_is ms text) ∙ h)
loads Z ms text (Err (faults.UnknownField name line)) h = err_found ms text (faults.UnknownField name line) (expanded ms text) refl (sym (loaded_is ms text) ∙ h)
loads Z ms text (Err (faults.BadForm line)) h = err_found ms text (faults.BadForm line) (expanded ms text) refl (sym (loaded_is ms text) ∙ h)
loads Z ms text (Err (faults.Count n)) h = err_found ms text (faults.Count n) (expanded ms text) refl (sym (loaded_is ms text) ∙ h)

formed_is : (end : ℕ) (plain : List ℕ) (tokens : List Token) (records : List RecText) → TokensTo plain tokens None → Records tokens records → 1 ≤ length records → length records ≤ 4000
    → loaded_cut end (cut plain) ≡ Ok records
formed_is end plain tokens records cuts are some few =
    ap (loaded_cut end) (tokens_only plain tokens None cuts)
    ∙ ap (λ (r : Result (List RecText) Stop). formed end r None) (records_only records [] tokens (length tokens) (omega arith) are) ∙ counts records some few

records_are : (ms : Macros) (text : List ℕ) (records : List RecText) → RecordsOf ms text records → loaded ms text ≡ Ok records
records_are ms text records (plain, tokens, made, cuts, are, some, few) =
    loaded_is ms text ∙ ap (loaded_plain text) (expansion_only ms text (Ok plain) made) ∙ formed_is (last_line text) plain tokens records cuts are some few

fault_is : (ms : Macros) (text : List ℕ) (fault : LoadFault) → FirstFaultOf ms text fault → loaded ms text ≡ Err fault
fault_is ms text fault (inl (cause, line, made, is)) = loaded_is ms text ∙ ap (loaded_plain text) (expansion_only ms text (Err (cause, line)) made) ∙ ap (λ (f : LoadFault). Err f) (sym is)
fault_is ms text fault (inr (plain, tokens, stop, made, cuts, is)) =
    loaded_is ms text ∙ ap (loaded_plain text) (expansion_only ms text (Ok plain) made) ∙ ap (loaded_cut (last_line text)) (tokens_only plain tokens stop cuts) ∙ err_formed (last_line text) tokens stop fault is

pub one_loading : OneLoading
one_loading ms text = (
  λ records others are also. ok_is records others (loaded ms text) (records_are ms text records are) (records_are ms text others also),
  λ records fault are also. err_ok fault records (loaded ms text) (fault_is ms text fault also) (records_are ms text records are),
  λ fault other is also. err_is fault other (loaded ms text) (fault_is ms text fault is) (fault_is ms text other also),
)
