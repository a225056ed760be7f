-- A whole text.
use Rattle.std.proofs.Common.{◌≡◌, ℕ, ◌<◌, ◌^◌, List, [], length, Ok, Err, false, refl, sym, ap, subst, ◌∙◌, inl, inr}
use Rattle.db_text.specs.Macros.{Macros, unclosed, unknown, too_deep, before}
use Rattle.db_text.specs.Expanding.{Placed, expanded_from, expanded}
use Rattle.db_text.specs.Expansion.{ExpandsTo}
use Rattle.db_text.specs.Faults.{IsFaultOf, Expands}
use Rattle.db_text.specs.Stops.{FailsAt}
use Rattle.db_text.specs.declared.fault.MacroStop.{MacroStop}
use Rattle.db_text.specs.declared.fault.MacroStop.TheVariants.{Unclosed, Unknown, TooDeep, Memory}
use Rattle.db_text.specs.declared.fault.TextFault.{TextFault}
use Rattle.db_text.proofs.Expansions.{before_empty, expansion_found}

expanded_is : (ms : Macros) (text : List ℕ) → expanded ms text ≡ expanded_from ms (length text) false 1 text
unfolding expanded
expanded_is ms text = refl

-- what the scan makes is what passages make
told : (ms : Macros) (text : List ℕ) (e : Placed) → expanded_from ms (length text) false 1 text ≡ e → ExpandsTo ms text e
told ms text e h = subst (ExpandsTo ms text) (expanded_is ms text ∙ h) (expansion_found ms text)

fails : (ms : Macros) (text : List ℕ) (stop : MacroStop) (line : ℕ) (fault : TextFault) → FailsAt stop line (expanded_from ms (length text) false 1 text) → IsFaultOf stop line fault → Expands ms text (Err fault)
fails ms text Memory line fault h e = subst (λ (f : TextFault). Expands ms text (Err f)) (sym e) tt
fails ms text Unclosed line fault h e = subst (λ (f : TextFault). Expands ms text (Err f)) (sym e) (unclosed, line, told ms text (Err (unclosed, line)) h, refl)
fails ms text TooDeep line fault h e = subst (λ (f : TextFault). Expands ms text (Err f)) (sym e) (too_deep, line, told ms text (Err (too_deep, line)) h, refl)
fails ms text (Unknown name) line fault h (inl e) = subst (λ (f : TextFault). Expands ms text (Err f)) (sym e) (unknown name.now, line, told ms text (Err (unknown name.now, line)) h, refl)
fails ms text (Unknown name) line fault h (inr e) = subst (λ (f : TextFault). Expands ms text (Err f)) (sym e) tt

pub expand_fails : (ms : Macros) (text bytes : List ℕ) (stop : MacroStop) (line : ℕ) (fault : TextFault) → bytes ≡ text → FailsAt stop line (expanded_from ms (length bytes) false 1 bytes) → IsFaultOf stop line fault
    → Expands ms text (Err fault)
expand_fails ms text bytes stop line fault same h e = subst (λ (t : List ℕ). Expands ms t (Err fault)) same (fails ms bytes stop line fault h e)

done : (ms : Macros) (text old new : List ℕ) → old ≡ [] → before old (expanded_from ms (length text) false 1 text) ≡ Ok new → length new < 2 ^ 32 → Expands ms text (Ok new)
done ms text old new none h small =
    (told ms text (Ok new) (sym (before_empty (expanded_from ms (length text) false 1 text)) ∙ ap (λ (o : List ℕ). before o (expanded_from ms (length text) false 1 text)) (sym none) ∙ h), small)

pub expand_done : (ms : Macros) (text bytes old new plain : List ℕ) → bytes ≡ text → old ≡ [] → before old (expanded_from ms (length bytes) false 1 bytes) ≡ Ok new → plain ≡ new → length new < 2 ^ 32 → Expands ms text (Ok plain)
expand_done ms text bytes old new plain same none h made small =
    subst (λ (p : List ℕ). Expands ms text (Ok p)) (sym made) (subst (λ (t : List ℕ). Expands ms t (Ok new)) same (done ms bytes old new none h small))
