-- What a text makes, step by step.
use Rattle.std.proofs.Common.{◌≡◌, ℕ, zero, suc, ◌≤◌, ◌<◌, Bool, List, [], ◌∷◌, ◌++◌, length, Some, None, Ok, Err, refl, sym, ap, ◌∙◌, arith}
use Rattle.std.proofs.lemmas.List.{append-nil}
use Rattle.db_text.specs.Macros.{Macros, MacroFault, Made, front, either, opening, before}
use Rattle.db_text.specs.Expanding.{Placed, behind_comment, escaped, quoted_after, line_after, replaced, placed, expanded_from}
use Rattle.db_text.specs.declared.fault.MacroStop.{MacroStop}
use Rattle.db_text.specs.declared.fault.MacroStop.TheVariants.{Unclosed, Unknown, TooDeep, Memory}
use Rattle.db_text.specs.Stops.{Fails, FailsAt}
use Rattle.db_text.proofs.Defaults.{front_is, no_front}
use Rattle.db_text.proofs.Making.{before_more}

pub fails_more_at : (stop : MacroStop) (line : ℕ) (done : List ℕ) (r : Placed) → FailsAt stop line (before done r) → FailsAt stop line r
fails_more_at Memory line done r h = tt
fails_more_at Unclosed line done (Ok x) h = absurd cc
fails_more_at Unclosed line done (Err e) h = h
fails_more_at (Unknown name) line done (Ok x) h = absurd cc
fails_more_at (Unknown name) line done (Err e) h = h
fails_more_at TooDeep line done (Ok x) h = absurd cc
fails_more_at TooDeep line done (Err e) h = h

-- a macro's fault is the text's at this line
fails_placed : (stop : MacroStop) (line : ℕ) (done : List ℕ) (more : List ℕ → Placed) (r : Made (List ℕ × List ℕ)) (whole : Placed) → Fails stop r → before done (placed line more r) ≡ whole → FailsAt stop line whole
fails_placed Memory line done more r whole h same = tt
fails_placed Unclosed line done more r whole h same = sym same ∙ ap (λ x. before done (placed line more x)) h
fails_placed (Unknown name) line done more r whole h same = sym same ∙ ap (λ x. before done (placed line more x)) h
fails_placed TooDeep line done more r whole h same = sym same ∙ ap (λ x. before done (placed line more x)) h

module _ (ms : Macros) where
  abbrev pub TextGoes : Bool → ℕ → List ℕ → List ℕ → Placed → Type 0
  TextGoes quoted line done bytes whole = (n : ℕ) × (length bytes ≤ n) × (before done (expanded_from ms n quoted line bytes) ≡ whole)

  module _ (quoted : Bool) (line : ℕ) where
    bytes_end : (n : ℕ) → expanded_from ms n quoted line [] ≡ Ok []
    unfolding expanded_from
    bytes_end zero = refl
    bytes_end (suc n) = refl

    abbrev byte : ℕ → ℕ → List ℕ → Placed
    byte n b rest = before (b ∷ []) (expanded_from ms n (quoted_after quoted b) (line_after line b) rest)

    abbrev pair : ℕ → ℕ → ℕ × List ℕ → Placed
    pair n b e = before (b ∷ e.0 ∷ []) (expanded_from ms n quoted line e.1)

    abbrev macro : ℕ → ℕ × List ℕ → Placed
    macro n o = placed line (expanded_from ms n quoted line) (replaced ms o.0 o.1)

    stepped : (n b : ℕ) (rest : List ℕ) → expanded_from ms (suc n) quoted line (b ∷ rest)
        ≡ either (either (either (byte n b rest) (pair n b) (escaped quoted (b ∷ rest))) (macro n) (opening (b ∷ rest))) (expanded_from ms n quoted line) (behind_comment quoted (b ∷ rest))
    unfolding expanded_from
    stepped n b rest = refl

    pub text_end : (done bytes : List ℕ) (whole : Placed) → None ≡ front bytes → TextGoes quoted line done bytes whole → whole ≡ Ok done
    text_end done bytes whole none (n, enough, same) =
        sym same ∙ ap (λ (xs : List ℕ). before done (expanded_from ms n quoted line xs)) (no_front bytes none) ∙ ap (before done) (bytes_end n) ∙ ap (λ (xs : List ℕ). Ok xs) (append-nil done)

    module _ (done bytes : List ℕ) (whole : Placed) (b : ℕ) (rest : List ℕ) (is : Some (b, rest) ≡ front bytes) where
      step : (n : ℕ) → expanded_from ms (suc n) quoted line bytes
          ≡ either (either (either (byte n b rest) (pair n b) (escaped quoted bytes)) (macro n) (opening bytes)) (expanded_from ms n quoted line) (behind_comment quoted bytes)
      step n =
          ap (expanded_from ms (suc n) quoted line) (front_is bytes b rest is) ∙ stepped n b rest
          ∙ ap (λ (xs : List ℕ). either (either (either (byte n b rest) (pair n b) (escaped quoted xs)) (macro n) (opening xs)) (expanded_from ms n quoted line) (behind_comment quoted xs)) (sym (front_is bytes b rest is))

      pub text_comment : (next : List ℕ) → Some next ≡ behind_comment quoted bytes → length next < length bytes → TextGoes quoted line done bytes whole → TextGoes quoted line done next whole
      text_comment next found shorter (zero, enough, same) = absurd (omega arith)
      text_comment next found shorter (suc n, enough, same) =
          (n, omega arith, ap (before done) (sym (step n ∙ ap (either (either (either (byte n b rest) (pair n b) (escaped quoted bytes)) (macro n) (opening bytes)) (expanded_from ms n quoted line)) (sym found))) ∙ same)

      module _ (no_comment : None ≡ behind_comment quoted bytes) where
        step_on : (n : ℕ) → expanded_from ms (suc n) quoted line bytes ≡ either (either (byte n b rest) (pair n b) (escaped quoted bytes)) (macro n) (opening bytes)
        step_on n = step n ∙ ap (either (either (either (byte n b rest) (pair n b) (escaped quoted bytes)) (macro n) (opening bytes)) (expanded_from ms n quoted line)) (sym no_comment)

        module _ (closer : ℕ) (inside : List ℕ) (opens : Some (closer, inside) ≡ opening bytes) where
          at_macro : (n : ℕ) → expanded_from ms (suc n) quoted line bytes ≡ macro n (closer, inside)
          at_macro n = step_on n ∙ ap (either (either (byte n b rest) (pair n b) (escaped quoted bytes)) (macro n)) (sym opens)

          pub text_fails : (stop : MacroStop) → Fails stop (replaced ms closer inside) → TextGoes quoted line done bytes whole → FailsAt stop line whole
          text_fails stop h (zero, enough, same) = let e = ap length (front_is bytes b rest is) in absurd (omega (arith, e))
          text_fails stop h (suc n, enough, same) = fails_placed stop line done (expanded_from ms n quoted line) (replaced ms closer inside) whole h (ap (before done) (sym (at_macro n)) ∙ same)

          pub text_faulty : (fault : MacroFault) → replaced ms closer inside ≡ Err fault → TextGoes quoted line done bytes whole → whole ≡ Err (fault, line)
          text_faulty fault h (zero, enough, same) = let e = ap length (front_is bytes b rest is) in absurd (omega (arith, e))
          text_faulty fault h (suc n, enough, same) = sym same ∙ ap (before done) (at_macro n ∙ ap (placed line (expanded_from ms n quoted line)) h)

          pub text_macro : (text next new : List ℕ) → replaced ms closer inside ≡ Ok (text, next) → done ++ text ≡ new → length next < length bytes → TextGoes quoted line done bytes whole → TextGoes quoted line new next whole
          text_macro text next new made more shorter (zero, enough, same) = absurd (omega arith)
          text_macro text next new made more shorter (suc n, enough, same) = (
            n,
            omega arith,
            ap (λ (xs : List ℕ). before xs (expanded_from ms n quoted line next)) (sym more) ∙ sym (before_more done text (expanded_from ms n quoted line next))
                ∙ ap (before done) (sym (at_macro n ∙ ap (placed line (expanded_from ms n quoted line)) made)) ∙ same,
          )

        module _ (no_macro : None ≡ opening bytes) where
          at_byte : (n : ℕ) → expanded_from ms (suc n) quoted line bytes ≡ either (byte n b rest) (pair n b) (escaped quoted bytes)
          at_byte n = step_on n ∙ ap (either (either (byte n b rest) (pair n b) (escaped quoted bytes)) (macro n)) (sym no_macro)

          pub text_pair : (second : ℕ) (next : List ℕ) → Some (second, next) ≡ escaped quoted bytes → length next < length bytes → TextGoes quoted line done bytes whole → TextGoes quoted line (done ++ (b ∷ second ∷ [])) next whole
          text_pair second next found shorter (zero, enough, same) = absurd (omega arith)
          text_pair second next found shorter (suc n, enough, same) = (
            n,
            omega arith,
            sym (before_more done (b ∷ second ∷ []) (expanded_from ms n quoted line next))
                ∙ ap (before done) (sym (at_byte n ∙ ap (either (byte n b rest) (pair n b)) (sym found))) ∙ same,
          )

          pub text_byte : None ≡ escaped quoted bytes → TextGoes quoted line done bytes whole → TextGoes (quoted_after quoted b) (line_after line b) (done ++ b ∷ []) rest whole
          text_byte none (zero, enough, same) = let e = ap length (front_is bytes b rest is) in absurd (omega (arith, e))
          text_byte none (suc n, enough, same) =
              let e = ap length (front_is bytes b rest is) in (
                n,
                omega (arith, e),
                sym (before_more done (b ∷ []) (expanded_from ms n (quoted_after quoted b) (line_after line b) rest))
                    ∙ ap (before done) (sym (at_byte n ∙ ap (either (byte n b rest) (pair n b)) (sym none))) ∙ same,
              )
