-- What reading gives, as the rules of the text or its first fault.
use Rattle.std.proofs.Common.{◌≡◌, ◌∙◌, ℕ, List, Option, Some, None, Result, Ok, Err, refl, sym, ap, inl, inr}
use Rattle.db_text.specs.Macros.{Macros, MacroFault}
use Rattle.db_text.specs.Expanding.{Placed, expanded}
use Rattle.db_text.specs.Expansion.{ExpandsTo, Expanded}
use Rattle.db_text.specs.Cutting.{Cut, cut}
use Rattle.db_text.specs.Faults.{macro_fault, Expands, CutsInto}
use Rattle.db_text.specs.Grammar.{Tokens, TokensTo, FirstFault}
use Rattle.db_text.specs.declared.fault.TextFault.{TextFault}
use Rattle.db_text.specs.declared.fault.TextFault.TheVariants as texts
use Rattle.db_text.specs.declared.token.Token.{Token}
use Rattle.db_text.proofs.Expansions.{expansion_only}
use Rattle.db_text.proofs.Sequences.{tokens_only}
use Rattle.acf_rules.specs.declared.rules.Rules.{Rules}
use Rattle.acf_rules.specs.declared.fault.AcfFault.{AcfFault}
use Rattle.acf_rules.specs.declared.fault.AcfFault.TheVariants as faults
use Rattle.acf_rules.specs.Reading.{text_fault, last_line, rules_in, IsRules, RulesOf, FirstFaultOf, Reads, OneReading}

module _ (ms : Macros) (text : List ℕ) where
  -- a fault of a macro
  in_macro : (fault : TextFault) → (cause : MacroFault) × (line : ℕ) × ExpandsTo ms text (Err (cause, line)) × (fault ≡ macro_fault cause line) → FirstFaultOf ms text (faults.Text fault)
  in_macro fault (cause, line, made, is) = inl (cause, line, made, ap (λ (f : TextFault). faults.Text f) is)

  pub expand_fails : (fault : TextFault) → Expands ms text (Err fault) → Reads ms text (Err (text_fault fault))
  expand_fails texts.NoMemory h = tt
  expand_fails (texts.BadToken line) h = in_macro (texts.BadToken line) h
  expand_fails (texts.OpenString line) h = in_macro (texts.OpenString line) h
  expand_fails (texts.UnknownMacro name line) h = in_macro (texts.UnknownMacro name line) h
  expand_fails (texts.MacroDepth line) h = in_macro (texts.MacroDepth line) h

  module _ (plain : List ℕ) (made : Expanded ms text plain) where
    -- a fault of a token
    in_token : (fault : TextFault) → FirstFault plain fault → FirstFaultOf ms text (faults.Text fault)
    in_token fault h = inr (inl (plain, fault, made, h, refl))

    pub tokens_fail : (Z : Type 0) (fault : TextFault) → CutsInto {Z = Z} plain (Err fault) → Reads ms text (Err (text_fault fault))
    tokens_fail Z texts.NoMemory h = tt
    tokens_fail Z (texts.BadToken line) h = in_token (texts.BadToken line) h
    tokens_fail Z (texts.OpenString line) h = in_token (texts.OpenString line) h
    tokens_fail Z (texts.UnknownMacro name line) h = in_token (texts.UnknownMacro name line) h
    tokens_fail Z (texts.MacroDepth line) h = in_token (texts.MacroDepth line) h

    module _ (tokens : List Token) (are : Tokens plain tokens) where
      in_form : (fault : AcfFault) → rules_in (last_line text) tokens ≡ Err fault → FirstFaultOf ms text fault
      in_form fault h = inr (inr (plain, tokens, made, are, h))

      pub rules_read : (result : Result Rules AcfFault) → IsRules result (rules_in (last_line text) tokens) → Reads ms text result
      rules_read (Ok rules) h = (plain, tokens, made, are, h)
      rules_read (Err faults.NoMemory) h = tt
      rules_read (Err (faults.Text fault)) h = in_form (faults.Text fault) h
      rules_read (Err (faults.BadForm line)) h = in_form (faults.BadForm line) h
      rules_read (Err (faults.SameName name line)) h = in_form (faults.SameName name line) h
      rules_read (Err (faults.UnknownName name line)) h = in_form (faults.UnknownName name line) h
      rules_read (Err (faults.Unsupported name line)) h = in_form (faults.Unsupported name line) h

-- ---- one reading

abbrev by_stop : ℕ → List Token → Option TextFault → Result Rules AcfFault
by_stop end tokens None = rules_in end tokens
by_stop end tokens (Some fault) = Err (faults.Text fault)

abbrev by_plain : List ℕ → Placed → Result Rules AcfFault
by_plain text (Err e) = Err (faults.Text (macro_fault e.0 e.1))
by_plain text (Ok plain) = by_stop (last_line text) (cut plain).0 (cut plain).1

err_ok : {A E : Type 0} (e : E) (a : A) (r : Result A E) → r ≡ Err e → r ≡ Ok a → ⊥
err_ok e a r f g = absurd cc

abbrev held : {A E : Type 0} → A → Result A E → A
held d (Ok x) = x
held d (Err e) = d

abbrev why : {A E : Type 0} → E → Result A E → E
why d (Ok x) = d
why d (Err e) = e

ok_is : {A E : Type 0} (a b : A) (r : Result A E) → r ≡ Ok a → r ≡ Ok b → a ≡ b
ok_is a b r f g = sym (ap (held a) f) ∙ ap (held a) g

err_is : {A E : Type 0} (a b : E) (r : Result A E) → r ≡ Err a → r ≡ Err b → a ≡ b
err_is a b r f g = sym (ap (why a) f) ∙ ap (why a) g

module _ (ms : Macros) (text : List ℕ) where
  by_tokens : (plain : List ℕ) (tokens : List Token) (stop : Option TextFault) → Expanded ms text plain → TokensTo plain tokens stop → by_plain text (expanded ms text) ≡ by_stop (last_line text) tokens stop
  by_tokens plain tokens stop made are =
      ap (by_plain text) (expansion_only ms text (Ok plain) made) ∙ ap (λ (c : Cut). by_stop (last_line text) c.0 c.1) (tokens_only plain tokens stop are)

  rules_are : (rules : Rules) → RulesOf ms text rules → by_plain text (expanded ms text) ≡ Ok rules
  rules_are rules (plain, tokens, made, are, h) = by_tokens plain tokens None made are ∙ h

  fault_is : (fault : AcfFault) → FirstFaultOf ms text fault → by_plain text (expanded ms text) ≡ Err fault
  fault_is fault (inl (cause, line, made, is)) = ap (by_plain text) (expansion_only ms text (Err (cause, line)) made) ∙ ap (λ (f : AcfFault). Err f) (sym is)
  fault_is fault (inr (inl (plain, stop, made, (tokens, are), is))) = by_tokens plain tokens (Some stop) made are ∙ ap (λ (f : AcfFault). Err f) (sym is)
  fault_is fault (inr (inr (plain, tokens, made, are, h))) = by_tokens plain tokens None made are ∙ h

pub one_reading : OneReading
one_reading ms text = (
  λ rules others are also. ok_is rules others (by_plain text (expanded ms text)) (rules_are ms text rules are) (rules_are ms text others also),
  λ rules fault are also. err_ok fault rules (by_plain text (expanded ms text)) (fault_is ms text fault also) (rules_are ms text rules are),
  λ fault other is also. err_is fault other (by_plain text (expanded ms text)) (fault_is ms text fault is) (fault_is ms text other also),
)
