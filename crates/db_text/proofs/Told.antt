-- What the scan gives, as the tokens of the text.
use Rattle.std.proofs.Common.{◌≡◌, ℕ, List, Option, Some, Result, Ok, Err, IfOk, sym, ap, subst, ◌∙◌, Vec}
use Rattle.db_text.specs.Cutting.{Cut, cut}
use Rattle.db_text.specs.Faults.{CutsInto}
use Rattle.db_text.specs.declared.fault.TextFault.{TextFault}
use Rattle.db_text.specs.declared.fault.TextFault.TheVariants as faults
use Rattle.db_text.specs.declared.token.Token.{Token}
use Rattle.db_text.specs.Grammar.{TokensTo}
use Rattle.db_text.proofs.Sequences.{tokens_found}

from_scan : (text : List ℕ) (tokens : List Token) (stop : Option TextFault) → (tokens, stop) ≡ cut text → TokensTo text tokens stop
from_scan text tokens stop e =
    subst (λ (ts : List Token). TokensTo text ts stop) (sym (ap (λ (c : Cut). c.0) e))
    (subst (λ (s : Option TextFault). TokensTo text (cut text).0 s) (sym (ap (λ (c : Cut). c.1) e)) (tokens_found text))

pub cut_scan : (Z E : Type 0) (text bytes : List ℕ) (r : Result (Vec Token Z × Option TextFault) E) → bytes ≡ text → IfOk r (λ x. (x.0.items, x.1) ≡ cut bytes) → IfOk r (λ x. (x.0.items, x.1) ≡ cut text)
cut_scan Z E text bytes (Ok x) same h = h ∙ ap cut same
cut_scan Z E text bytes (Err e) same h = tt

pub cut_told : (Z E : Type 0) (text bytes : List ℕ) (r : Result (Vec Token Z × Option TextFault) E) → bytes ≡ text → IfOk r (λ x. (x.0.items, x.1) ≡ cut bytes) → IfOk r (λ x. TokensTo text x.0.items x.1)
cut_told Z E text bytes (Ok x) same h = from_scan text x.0.items x.1 (h ∙ ap cut same)
cut_told Z E text bytes (Err e) same h = tt

pub fault_told : (Z : Type 0) (text : List ℕ) (tokens : List Token) (fault : TextFault) → TokensTo text tokens (Some fault) → CutsInto {Z = Z} text (Err fault)
fault_told Z text tokens faults.NoMemory h = tt
fault_told Z text tokens (faults.BadToken line) h = (tokens, h)
fault_told Z text tokens (faults.OpenString line) h = (tokens, h)
fault_told Z text tokens (faults.UnknownMacro name line) h = (tokens, h)
fault_told Z text tokens (faults.MacroDepth line) h = (tokens, h)
