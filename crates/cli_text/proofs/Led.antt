-- Texts that are printed one after another, as a loop does.
use Rattle.std.proofs.Common.{◌≡◌, ◌∙◌, ℕ, List, [], ◌∷◌, ◌++◌, sym, ap, append_assoc, append-nil}
use Rattle.cli_text.specs.Texts.{led}

-- one text more, behind what stands in front of it
pub led_step : (old mid new front t all sep : List ℕ) (ts : List (List ℕ)) → mid ≡ old ++ front → new ≡ mid ++ t → sep ≡ 44 ∷ 32 ∷ [] → old ++ led front (t ∷ ts) ≡ all → new ++ led sep ts ≡ all
led_step old mid new front t all sep ts fronted printed comma same =
    let rest = led (44 ∷ 32 ∷ []) ts in
    ap (λ (s : List ℕ). new ++ led s ts) comma
    ∙ ap (λ (n : List ℕ). n ++ rest) printed
    ∙ append_assoc mid t rest
    ∙ ap (λ (m : List ℕ). m ++ (t ++ rest)) fronted
    ∙ append_assoc old front (t ++ rest)
    ∙ same

-- no text is left
pub led_done : (out front all : List ℕ) (ts : List (List ℕ)) → ts ≡ [] → out ++ led front ts ≡ all → out ≡ all
led_done out front all ts none same = sym (append-nil out) ∙ ap (λ (xs : List (List ℕ)). out ++ led front xs) (sym none) ∙ same

-- a text in two parts, one behind the other
pub in_parts : (old mid new a b : List ℕ) → mid ≡ old ++ a → new ≡ mid ++ b → new ≡ old ++ (a ++ b)
in_parts old mid new a b first second = second ∙ ap (λ (m : List ℕ). m ++ b) first ∙ append_assoc old a b

-- a name and a mark, and a text behind them
pub in_name : (old mid new name t : List ℕ) (mark : ℕ) → mid ≡ old ++ (name ++ mark ∷ []) → new ≡ mid ++ t → new ≡ old ++ (name ++ mark ∷ t)
in_name old mid new name t mark first second =
    second ∙ ap (λ (m : List ℕ). m ++ t) first ∙ append_assoc old (name ++ mark ∷ []) t ∙ ap (λ (m : List ℕ). old ++ m) (append_assoc name (mark ∷ []) t)
