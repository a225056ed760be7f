-- What a text and a line feed are in a buffer of line feeds.
use Rattle.std.proofs.Common.{◌≡◌, ℕ, zero, suc, ◌+◌, ◌-◌, ◌<◌, List, [], ◌∷◌, ◌++◌, length, take, drop, replicate, refl, ◌∙◌, ap, arith}
use Rattle.std.proofs.lemmas.List.{drop-replicate}
use Rattle.std.proofs.Math.Seq.{take-append-add}
use Rattle.pva_outside.specs.WriterPort.{line}

first_of : (m : ℕ) → 0 < m → take {A = ℕ} 1 (replicate m 10) ≡ 10 ∷ []
first_of zero some = absurd (omega (arith, some))
first_of (suc m) some = refl

-- the text was copied to the front of the buffer
pub line_front : (m : ℕ) (copied text : List ℕ) → copied ≡ text → length text < m → take (length text + 1) (copied ++ drop (length text) (replicate m 10)) ≡ line text
line_front m copied text same short =
    ap (λ (l : List ℕ). take (length text + 1) (l ++ drop (length text) (replicate m 10))) same
    ∙ take-append-add text (drop (length text) (replicate m 10)) 1
    ∙ ap (λ (l : List ℕ). text ++ take 1 l) (drop-replicate (length text) m 10)
    ∙ ap (λ (l : List ℕ). text ++ l) (first_of (m - length text) (omega (arith, short)))
