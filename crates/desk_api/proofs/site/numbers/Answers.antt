use Rattle.std.specs.Prelude.{◌≡◌, ℕ, zero, suc, ◌+◌, List, ◌++◌, ◌∷◌, []}
use Rattle.std.specs.List.{range_with_len}
use Rattle.std.proofs.Common.{sym, ◌∙◌, ap, arith}
use Rattle.desk_api.proofs.site.numbers.Goals as goal

more : (n a : ℕ) → range_with_len a (suc n) ≡ range_with_len a n ++ (a + n) ∷ []
more zero a = let same : a ≡ a + 0 = omega arith in ap (λ (m : ℕ). m ∷ []) same
more (suc n) a =
    let same : a + 1 + n ≡ a + suc n = omega arith in
    ap (λ (l : List ℕ). a ∷ l) (more n (a + 1) ∙ ap (λ (m : ℕ). range_with_len (a + 1) n ++ m ∷ []) same)

pub loop-number-preserved : goal.loop-number-preserved
loop-number-preserved c =
    let n = c.loop-number.number in
    let next : suc n ≡ n + 1 = omega arith in
    let last : 0 + n ≡ n = omega arith in
    (c.in_ok-push.ensures {u = tt}).items ∙ ap (λ (l : List ℕ). l ++ n ∷ []) c.loop-number.invariant
    ∙ ap (λ (m : ℕ). range_with_len 0 n ++ m ∷ []) (sym last) ∙ sym (more n 0) ∙ ap (range_with_len 0) next
