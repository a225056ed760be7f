-- Blanks at the ends of a text.
use Rattle.std.proofs.Common.{◌≡◌, ℕ, true, false, cond, List, [], ◌∷◌, ◌++◌, map, sym, ap, ◌∙◌, append_assoc}
use Rattle.std.specs.Borrow.{Bor}
use Rattle.std.specs.Prelude.{reverse}
use Rattle.std.proofs.lemmas.List.{reverse-append, reverse-reverse, map-append}
use Rattle.group_defs.specs.Triggers.{is_blank, trimmed_start, trimmed_end, trimmed}

module _ (xs rest : List ℕ) (b : ℕ) where
  pub start_blank : xs ≡ b ∷ rest → is_blank b ≡ true → trimmed_start xs ≡ trimmed_start rest
  start_blank e h = ap trimmed_start e ∙ ap (λ t. cond t (trimmed_start rest) (b ∷ rest)) h

  pub start_kept : xs ≡ b ∷ rest → is_blank b ≡ false → trimmed_start xs ≡ xs
  start_kept e h = ap trimmed_start e ∙ ap (λ t. cond t (trimmed_start rest) (b ∷ rest)) h ∙ sym e

module _ (xs rest : List ℕ) (b : ℕ) (e : xs ≡ rest ++ b ∷ []) where
  turned : reverse xs ≡ b ∷ reverse rest
  turned = ap reverse e ∙ reverse-append rest (b ∷ [])

  pub end_blank : is_blank b ≡ true → trimmed_end xs ≡ trimmed_end rest
  end_blank h = ap reverse (start_blank (reverse xs) (reverse rest) b turned h)

  pub end_kept : is_blank b ≡ false → trimmed_end xs ≡ xs
  end_kept h = ap reverse (start_kept (reverse xs) (reverse rest) b turned h) ∙ reverse-reverse xs

-- one more name of a text that commas divide
pub names_more : (done : List (Bor (List ℕ))) (part : Bor (List ℕ)) (name : List ℕ) (rest left whole : List (List ℕ)) → left ≡ name ∷ rest → part.now ≡ trimmed name
    → map (λ s. s.now) done ++ map trimmed left ≡ whole → map (λ s. s.now) (done ++ part ∷ []) ++ map trimmed rest ≡ whole
names_more done part name rest left whole cut is same =
    ap (λ (ns : List (List ℕ)). ns ++ map trimmed rest) (map-append (λ (s : Bor (List ℕ)). s.now) done (part ∷ []))
    ∙ append_assoc (map (λ (s : Bor (List ℕ)). s.now) done) (part.now ∷ []) (map trimmed rest)
    ∙ ap (λ (n : List ℕ). map (λ (s : Bor (List ℕ)). s.now) done ++ n ∷ map trimmed rest) is
    ∙ sym (ap (λ (ns : List (List ℕ)). map (λ (s : Bor (List ℕ)). s.now) done ++ map trimmed ns) cut) ∙ same
