-- A text that has nothing to replace and nothing to drop is expanded to itself.
use Rattle.std.proofs.Common.{◌≡◌, ◌≢◌, ℕ, zero, suc, ◌≤◌, Bool, eqb, true, false, List, [], ◌∷◌, length, None, Ok, refl, ap, subst, ◌∙◌, arith}
use Rattle.pvd_type.proofs.Sets.{differs}
use Rattle.db_text.specs.Macros.{Macros, either, opening, before}
use Rattle.db_text.specs.Expanding.{behind_comment, escaped, quoted_after, line_after, replaced, placed, expanded_from, expanded}
use Rattle.db_text.specs.Expansion.{ExpandsTo}
use Rattle.db_text.specs.Plain.{IsPlain, PlainStays}
use Rattle.db_text.proofs.Expansions.{expansion_found}

no_macro : (b : ℕ) (rest : List ℕ) → (b ≢ 36) → opening (b ∷ rest) ≡ None
unfolding opening
no_macro b [] h = refl
no_macro b (x ∷ rest) h = rw (differs b 36 h) refl

no_comment : (b : ℕ) (rest : List ℕ) → (b ≢ 35) → behind_comment false (b ∷ rest) ≡ None
unfolding behind_comment
no_comment b rest h = rw (differs b 35 h) refl

no_escape : (b : ℕ) (rest : List ℕ) → escaped false (b ∷ rest) ≡ None
unfolding escaped
no_escape b [] = refl
no_escape b (x ∷ rest) = refl

no_quote : (b : ℕ) → (b ≢ 34) → quoted_after false b ≡ false
no_quote b h = by_line (eqb b 10) refl
  where
    by_line : (v : Bool) → eqb b 10 ≡ v → quoted_after false b ≡ false
    by_line true e = rw e refl
    by_line false e = rw (e, differs b 34 h) refl

module _ (ms : Macros) where
  step : (n line b : ℕ) (rest : List ℕ) → expanded_from ms (suc n) false line (b ∷ rest)
      ≡ either
      (either
      (either (before (b ∷ []) (expanded_from ms n (quoted_after false b) (line_after line b) rest)) (λ e. before (b ∷ e.0 ∷ []) (expanded_from ms n false line e.1)) (escaped false (b ∷ rest)))
      (λ o. placed line (expanded_from ms n false line) (replaced ms o.0 o.1)) (opening (b ∷ rest)))
      (expanded_from ms n false line) (behind_comment false (b ∷ rest))
  unfolding expanded_from
  step n line b rest = refl

  at_end : (n line : ℕ) → expanded_from ms n false line [] ≡ Ok []
  unfolding expanded_from
  at_end zero line = refl
  at_end (suc n) line = refl

  stays : (text : List ℕ) (n line : ℕ) → length text ≤ n → IsPlain text → expanded_from ms n false line text ≡ Ok text
  stays [] n line enough plain = at_end n line
  stays (b ∷ rest) zero line enough plain = let e : suc (length rest) ≤ 0 = enough in absurd (omega (arith, e))
  stays (b ∷ rest) (suc n) line enough plain =
      let e : suc (length rest) ≤ suc n = enough in
      let more = stays rest n (line_after line b) (omega (arith, e)) plain.3 in
      step n line b rest ∙ rw (no_comment b rest plain.1, no_macro b rest plain.0, no_escape b rest, no_quote b plain.2) (ap (before (b ∷ [])) more)

expanded_is : (ms : Macros) (text : List ℕ) → expanded ms text ≡ expanded_from ms (length text) false 1 text
unfolding expanded
expanded_is ms text = refl

pub plain_stays : PlainStays
plain_stays ms text plain = subst (ExpandsTo ms text) (expanded_is ms text ∙ stays ms text (length text) 1 (omega arith) plain) (expansion_found ms text)
