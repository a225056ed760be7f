-- A text, loaded.
use Rattle.std.proofs.Common.{◌≡◌, ◌∙◌, ℕ, List, [], length, Option, Some, None, Result, Ok, Err, refl, sym, ap, subst, Vec}
use Rattle.rec_kinds.specs.declared.record_text.RecText.{RecText}
use Rattle.db_text.specs.Macros.{Macros, MacroFault}
use Rattle.db_text.specs.Expanding.{expanded}
use Rattle.db_text.specs.Expansion.{ExpandsTo, Expanded}
use Rattle.db_text.specs.Cutting.{Cut, cut}
use Rattle.db_text.specs.Faults.{macro_fault, Expands}
use Rattle.db_text.specs.declared.fault.TextFault.{TextFault}
use Rattle.db_text.specs.declared.fault.TextFault.TheVariants as texts
use Rattle.db_text.proofs.Expansions.{expansion_only}
use Rattle.db_load.specs.declared.fault.LoadFault.{LoadFault}
use Rattle.db_load.specs.declared.fault.LoadFault.TheVariants.{Text}
use Rattle.db_load.specs.Forms.{Tokens, records_from}
use Rattle.db_load.specs.Loading.{Loaded, text_fault, counted, formed, behind, loaded_cut, last_line, loaded_plain, loaded, IsLoaded}

faulty : (Z : Type 0) (fault : TextFault) → IsLoaded {Z = Z} (Err (text_fault fault)) (Err (Text fault))
faulty Z texts.NoMemory = tt
faulty Z (texts.BadToken line) = refl
faulty Z (texts.OpenString line) = refl
faulty Z (texts.UnknownMacro name line) = refl
faulty Z (texts.MacroDepth line) = refl

found : (Z : Type 0) (end : ℕ) (records : List RecText) (stop : Option TextFault) (result : Result (Vec RecText Z) LoadFault) → IsLoaded result (counted records) → IsLoaded (behind stop result) (formed end (Ok records) stop)
found Z end records None result h = h
found Z end records (Some fault) result h = faulty Z fault

pub cut_done : (Z : Type 0) (end : ℕ) (c : Cut) (tokens shown : Tokens) (stop : Option TextFault) (records : List RecText) (result told : Result (Vec RecText Z) LoadFault)
    → (tokens, stop) ≡ c → shown ≡ tokens → records_from (length shown) [] shown ≡ Ok records → IsLoaded result (counted records) → told ≡ behind stop result → IsLoaded told (loaded_cut end c)
cut_done Z end c tokens shown stop records result told is same read h telling =
    let forms : records_from (length tokens) [] tokens ≡ Ok records = subst (λ (ts : Tokens). records_from (length ts) [] ts ≡ Ok records) same read in
    let one : IsLoaded (behind stop result) (formed end (records_from (length tokens) [] tokens) stop) = rw forms (found Z end records stop result h) in
    let two : IsLoaded (behind stop result) (loaded_cut end c) = subst (λ (d : Cut). IsLoaded (behind stop result) (loaded_cut end d)) is one in
    subst (λ (r : Result (Vec RecText Z) LoadFault). IsLoaded r (loaded_cut end c)) (sym telling) two

-- what was returned is what the scan gives
abbrev pub Scans : {Z : Type 0} → Macros → List ℕ → Result (Vec RecText Z) LoadFault → Type 0
Scans ms text result = IsLoaded result (loaded ms text)

loaded_is : (ms : Macros) (text : List ℕ) → loaded ms text ≡ loaded_plain text (expanded ms text)
unfolding loaded
loaded_is ms text = refl

pub load_done : (Z : Type 0) (ms : Macros) (text plain shown : List ℕ) (end : ℕ) (result : Result (Vec RecText Z) LoadFault)
    → Expanded ms text plain → end ≡ last_line text → shown ≡ plain → IsLoaded result (loaded_cut end (cut shown)) → Scans ms text result
load_done Z ms text plain shown end result made line same h =
    let one : IsLoaded result (loaded_cut (last_line text) (cut plain)) =
    subst (λ (p : List ℕ). IsLoaded result (loaded_cut (last_line text) (cut p))) same (subst (λ (n : ℕ). IsLoaded result (loaded_cut n (cut shown))) line h) in
    subst (λ (r : Loaded). IsLoaded result r) (sym (loaded_is ms text ∙ ap (loaded_plain text) (expansion_only ms text (Ok plain) made))) one

stops : (ms : Macros) (text : List ℕ) (fault : TextFault) → (cause : MacroFault) × (line : ℕ) × ExpandsTo ms text (Err (cause, line)) × (fault ≡ macro_fault cause line) → loaded ms text ≡ Err (Text fault)
stops ms text fault (cause, line, made, is) = loaded_is ms text ∙ ap (loaded_plain text) (expansion_only ms text (Err (cause, line)) made) ∙ ap (λ (f : TextFault). Err (Text f)) (sym is)

pub load_fails : (Z : Type 0) (ms : Macros) (text : List ℕ) (fault : TextFault) → Expands ms text (Err fault) → Scans {Z = Z} ms text (Err (text_fault fault))
load_fails Z ms text texts.NoMemory h = tt
load_fails Z ms text (texts.BadToken line) h = stops ms text (texts.BadToken line) h
load_fails Z ms text (texts.OpenString line) h = stops ms text (texts.OpenString line) h
load_fails Z ms text (texts.UnknownMacro name line) h = stops ms text (texts.UnknownMacro name line) h
load_fails Z ms text (texts.MacroDepth line) h = stops ms text (texts.MacroDepth line) h
